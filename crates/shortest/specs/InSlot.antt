-- A slot of the search over places: its candidates are those of the lists. Assumes nothing.
use Rattle.std.specs.Prelude.{◌≡◌, ◌↔◌, true, ℕ, suc, ◌+◌, ◌<◌}
use Rattle.std.proofs.Common.{sym, ap, ◌∙◌, inl, inr, arith}
use Rattle.std.proofs.Math.Bool.{and-eq-true_iff}
use mathlib.Core.List.{List, Memᴰ}
use Rattle.std.proofs.Math.Decide.{dec_lt}
use Rattle.rules.specs.Basics.{at}
use Rattle.rules.specs.Needs.{Gives}
use Rattle.laws.specs.Lists.{dec_mem}
use Rattle.jobset.specs.declared.Set.{Set}
use Rattle.jobset.specs.Sets.{member, minus, intersection, is_subset, is_empty, is_one}
use Rattle.jobset.specs.Membership.{in-intersection}
use Rattle.dominance.specs.Tests.{GiverBefore}
use Rattle.dominance.specs.States.{Instance}
use Rattle.dominance.specs.Exact.{Forced, Tied}
use Rattle.dominance.specs.Room.{Tying as TyingJob}
use Rattle.places.specs.Seats.{Apart, On, on-iff, on-minus, on-intersection, at_place, subset-on, empty-on, SoleJob, one_on}
use Rattle.places.specs.Windows.{Windows, held, held_before, in_held, in-held-before, apart-hold, giver-closed}
use Rattle.places.specs.Slot.{Candidates, is_forced, is_tied, carried, candidates_at, near_at, in-forced, in-tied, Tying, in-tying}
use Rattle.places.specs.Building.{carried_on}
use Rattle.shortest.specs.Given.{Given, may-start, within, At, InTime, started, ran-held}

module _ {G : Given} {k : ℕ} (x : At G (suc k)) (time : InTime G x.s x.t) where
  -- the search over lists, and the candidates of the slot as sets of places
  abbrev pub I : Instance
  I = within G

  abbrev pub c : Candidates
  c = candidates_at G.A x.s x.done x.ran

  abbrev W : Windows
  W = G.W

  abbrev π : ℕ → ℕ
  π = G.Z.place

  -- the jobs of the slot before, and those of the slot
  abbrev O : List ℕ
  O = held_before W x.s

  abbrev H : List ℕ
  H = held W x.s

  s-lt : x.s < G.C
  s-lt = omega (arith, x.sum)

  apart-O : Apart π O
  apart-O = apart-hold W G.Z x.s

  pub in-n : (i : ℕ) → Memᴰ i H → i < W.n
  in-n i m = ((in_held W x.s i).0 m).0

  -- ---- the jobs of the slot that have not run

  abbrev next : Set
  next = carried G.A x.s x.done

  abbrev free : Set
  free = minus (G.A.held x.s) next

  -- what has run before and stands in the slot stood in the slot before, and does not leave
  was : (i : ℕ) → Memᴰ i H → at x.t i < x.s → Memᴰ i O
  was i m p = let w = started x i (in-n i m) p in (in-held-before W x.s i).1 (in-n i m, omega (arith, w.0), omega (arith, ((in_held W x.s i).0 m).2))

  -- what is done of the slot before, without the places that end: what is done of this slot
  pub next-is : On π H next (λ i. at x.t i < x.s)
  unfolding carried
  next-is =
      on-iff (λ i m. (λ w. w.1, λ p. (was i m p, p)))
      (carried_on W G.Z x.s x.done (G.A.ends x.s) (λ i. at x.t i < x.s) x.done-is (G.ready.shows.ends_is x.s s-lt))

  candidate : (i : ℕ) → Memᴰ i H → (at x.t i < x.s → ⊥) → Memᴰ i (I.candidates x.s)
  candidate i m late = (may-start W G.C x.s i).1 (m, go (dec_lt (x.s + W.θ i) G.C))
    where
      go : Dec (x.s + W.θ i < G.C) → x.s + W.θ i < G.C
      go (yes l) = l
      go (no l) = absurd (late (time i (in-n i m) (inr (omega arith))))

  pub in-H : (i : ℕ) → Memᴰ i (I.candidates x.s) → Memᴰ i H
  in-H i m = ((may-start W G.C x.s i).0 m).0

  is_free : On π H free (λ i. Memᴰ i (I.candidates x.s) × (at x.t i < x.s → ⊥))
  is_free = on-iff (λ i m. (λ w. (candidate i m w.1, w.1), λ w. (tt, w.1))) (on-minus (G.ready.shows.held-is x.s s-lt) next-is)

  -- ---- a job by its givers

  -- the givers of job i in the slot before, and those of them that ran there
  abbrev givers : ℕ → Set
  givers i = G.A.prev x.s (π i)

  givers-is : (i : ℕ) → Memᴰ i H → On π O (givers i) (λ g. Gives W.needs g i)
  givers-is i m = G.ready.shows.prev-is x.s i s-lt m

  abbrev pub Near : ℕ → ℕ → Type 0
  Near i g = Gives W.needs g i × (at x.t g + 1 ≡ x.s)

  is-near : (i : ℕ) → Memᴰ i H → On π O (intersection (givers i) x.ran) (Near i)
  is-near i m = on-intersection x.ran (givers-is i m) (λ g l. (x.ran-is.to g l, x.ran-is.from g l))

  pub near-is : (i : ℕ) → Memᴰ i H → On π O (near_at G.A x.s x.ran (π i)) (Near i)
  unfolding near_at
  near-is i m = is-near i m

  abbrev Ready : ℕ → Type 0
  Ready i = (g : ℕ) → Gives W.needs g i → at x.t g < x.s

  -- the givers of the slot before are done: then all are, since the others closed earlier
  ready-is : (i : ℕ) → Memᴰ i H → (is_subset (givers i) x.done ≡ true) ↔ Ready i
  ready-is i m = (λ e g a. go e g a (dec_mem g O), λ f. w.1 (λ g n a. f g a))
    where
      w : (is_subset (givers i) x.done ≡ true) ↔ ((g : ℕ) → Memᴰ g O → Gives W.needs g i → at x.t g < x.s)
      w = subset-on (givers-is i m) x.done-is

      go : is_subset (givers i) x.done ≡ true → (g : ℕ) → Gives W.needs g i → Dec (Memᴰ g O) → at x.t g < x.s
      go e g a (yes n) = w.0 e g n a
      go e g a (no n) = x.closed g (G.leads.needs-in g i a).0 (inl (giver-closed W G.leads x.s i m g a n))

  -- a giver that ran in the slot before stands there
  pub near-O : (i g : ℕ) → Gives W.needs g i → at x.t g + 1 ≡ x.s → Memᴰ g O
  near-O i g a e = ran-held x g (G.leads.needs-in g i a).0 e

  forced-test : (i : ℕ) → Memᴰ i H → (is_forced x.done x.ran (givers i) ≡ true) ↔ (Ready i × (GiverBefore W.needs x.s x.t i → ⊥))
  unfolding is_forced
  forced-test i m =
      let a = and-eq-true_iff (is_subset (givers i) x.done) (is_empty (intersection (givers i) x.ran)) in
      let e = empty-on (is-near i m) in (
        λ z. ((ready-is i m).0 (a.0 z).0, λ w. e.0 (a.0 z).1 w.0 (near-O i w.0 w.1 w.2) (w.1, w.2)),
        λ p. a.1 ((ready-is i m).1 p.0, e.1 (λ g n w. p.1 (g, w.0, w.1))),
      )

  tied-test : (i : ℕ) → Memᴰ i H → (is_tied x.done x.ran (givers i) ≡ true) ↔ (Ready i × SoleJob O (Near i))
  unfolding is_tied
  tied-test i m =
      let a = and-eq-true_iff (is_subset (givers i) x.done) (is_one (intersection (givers i) x.ran)) in
      let e = one_on apart-O (is-near i m) in
      (λ z. ((ready-is i m).0 (a.0 z).0, e.0 (a.0 z).1), λ p. a.1 ((ready-is i m).1 p.0, e.1 p.1))

  -- ---- forced and tied

  low-64 : (i : ℕ) → Memᴰ i H → π i < 64
  low-64 i m = omega (arith, G.Z.low x.s i m)

  pub is-forced : On π H c.forced (Forced I x.s x.t)
  unfolding candidates_at
  is-forced = record {
    to = λ i m z.
        let w = (law (π i)).0 z in
        let f = is_free.to i m w.1 in
        let late = f.1 in
        let p = (forced-test i m).0 w.2 in
        record { candidate = f.0; able = record { free = omega arith; ready = p.0; take-one = λ a b u v e k. absurd (p.1 (a, u, e)) }; alone = p.1 };
    from = λ i m f. (law (π i)).1 (
      low-64 i m,
      is_free.from i m (f.candidate, λ z. omega (arith, f.able.free)),
      (forced-test i m).1 (f.able.ready, f.alone),
    );
    bound = λ p z. is_free.bound p ((law p).0 z).1;
  }
    where
      law : (p : ℕ) → (member c.forced p ≡ true) ↔ ((p < 64) × (member free p ≡ true) × (is_forced x.done x.ran (G.A.prev x.s p) ≡ true))
      law p = in-forced x.done x.ran (G.A.prev x.s) free p

  tied-job : (i : ℕ) → Memᴰ i H → Memᴰ i (I.candidates x.s) → (at x.t i < x.s → ⊥) → is_tied x.done x.ran (givers i) ≡ true
      → Tied I x.s x.t i
  tied-job i l m late e =
      let p = (tied-test i l).0 e in
      record {
        candidate = m;
        able = record {
          free = omega arith;
          ready = p.0;
          take-one = λ a b u v d k. p.1.only a (near-O i a u d) (u, d) ∙ sym (p.1.only b (near-O i b v k) (v, k));
        };
        giver = (p.1.job, p.1.has.0, p.1.has.1);
      }

  job-tied : (i : ℕ) → Memᴰ i H → Tied I x.s x.t i → is_tied x.done x.ran (givers i) ≡ true
  job-tied i l d =
      let g = d.giver in
      (tied-test i l).1 (
        d.able.ready,
        record {
          job = g.0;
          in-H = near-O i g.0 g.1 g.2;
          has = (g.1, g.2);
          only = λ j k w. d.able.take-one j g.0 w.0 g.1 w.1 g.2;
        },
      )

  pub is_tied_lem : On π H c.tied (Tied I x.s x.t)
  unfolding candidates_at
  is_tied_lem = record {
    to = λ i m z. let w = (law (π i)).0 z in let f = is_free.to i m w.1 in tied-job i m f.0 f.1 w.2;
    from = λ i m d. (law (π i)).1 (low-64 i m, is_free.from i m (d.candidate, λ z. omega (arith, d.able.free)), job-tied i m d);
    bound = λ p z. is_free.bound p ((law p).0 z).1;
  }
    where
      law : (p : ℕ) → (member c.tied p ≡ true) ↔ ((p < 64) × (member free p ≡ true) × (is_tied x.done x.ran (G.A.prev x.s p) ≡ true))
      law p = in-tied x.done x.ran (G.A.prev x.s) free p

  -- ---- tying: the jobs of the slot before that have tied takers

  pub is-tying : On π O c.tying (TyingJob I x.s x.t)
  unfolding candidates_at
  is-tying = record {
    to = λ g n z. taker g n ((law (π g)).0 z);
    from = λ g n w.
        let d = w.taker.2 in
        let m = in-H w.taker.0 d.candidate in
        (law (π g)).1 record {
          taker = π w.taker.0;
          below_64 = low-64 w.taker.0 m;
          is_free = is_free.from w.taker.0 m (d.candidate, λ z. omega (arith, d.able.free));
          is_tied_lem = job-tied w.taker.0 m d;
          is-giver = (is-near w.taker.0 m).from g n (w.taker.1, w.before);
        };
    bound = λ p z. let w = (law p).0 z in x.ran-is.bound p ((in-intersection (G.A.prev x.s w.taker) x.ran p).0 w.is-giver).1;
  }
    where
      law : (p : ℕ) → (member c.tying p ≡ true) ↔ Tying x.done x.ran (G.A.prev x.s) free p
      law p = in-tying x.done x.ran (G.A.prev x.s) free p

      taker : (g : ℕ) → Memᴰ g O → Tying x.done x.ran (G.A.prev x.s) free (π g) → TyingJob I x.s x.t g
      taker g n w =
          let b = at_place is_free w.taker w.is_free in
          let e : π b.0 ≡ w.taker = b.2 in
          let v = (is-near b.0 b.1).to g n (ap (λ (p : ℕ). member (intersection (G.A.prev x.s p) x.ran) (π g)) e ∙ w.is-giver) in
          record {
            in-n = (G.leads.needs-in g b.0 v.0).0;
            before = v.1;
            taker = (b.0, v.0, tied-job b.0 b.1 b.3.0 b.3.1 (ap (λ (p : ℕ). is_tied x.done x.ran (G.A.prev x.s p)) e ∙ w.is_tied_lem));
          }
