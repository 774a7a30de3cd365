-- The largest sets that may run in a slot: it is enough to try them. Assumes nothing.
-- Its definitions: specs/Maximal.antt.
use Rattle.std.specs.Prelude.{◌≡◌, refl, ◌⊎◌, ◌↔◌, ℕ, suc, ◌+◌, ◌≤◌, ◌<◌, set}
use Rattle.std.proofs.Math.Logic.{⊎_elim}
use mathlib.Core.List.{List, ◌∷◌, Memᴰ}
use Rattle.std.proofs.Math.Option.{Option}
use Rattle.std.proofs.Common.{arith}
use Rattle.std.proofs.Math.Decide.{dec_lt}
use Rattle.rules.specs.Basics.{at, count}
use Rattle.rules.specs.Needs.{Gives}
use Rattle.rules.specs.Boards.{in_slot}
use Rattle.laws.specs.Tests.{T-eqb}
use Rattle.laws.specs.Counting.{pigeonhole, passing, passing-in, passing-distinct}
use Rattle.laws.specs.Preference.{Weak, Best, Best-iff}
use Rattle.dominance.specs.Exchange.{Able, May, Moved, here, stays, moved, moved-capped, Exchanged}
use Rattle.dominance.proofs.Exchange.{exchange}
use Rattle.dominance.specs.Tries.{first, Row, OneOf, first-best}
use Rattle.dominance.specs.States.{Instance, State, Good, Allowed, seen, runs-able, runs-one, runs-candidate, good-past, placed-best, all_placed_lem}
use Rattle.dominance.specs.Placing.{place, next-state, good-down, good-up}
use Rattle.dominance.specs.Search.{Step, all-placed-is, Right}
use Rattle.dominance.specs.Fill.{Full, Closed}
use Rattle.dominance.proofs.Fill.{fill}
use Rattle.dominance.specs.Tests.{may-dec}
use Rattle.dominance.specs.Maximal.{Maximal, TriesMaximal}

module _ (I : Instance) (s : ℕ) (t : List ℕ) where
  -- slot s has fewer jobs than it takes
  abbrev pub Room : List ℕ → Type 0
  Room u = count (in_slot u s) I.n < I.cap

  -- a job that may join slot s, moved there where it has room, leaves the list in the family
  closed : Closed I.n (Gives I.needs) s (I.candidates s) (Good I s t) Room
  closed = record {
    len = λ u g. g.fits.len;
    in-n = I.candidates-in s;
    move = move;
    room-dec = λ u. dec_lt (count (in_slot u s) I.n) I.cap;
    may-dec = may-dec I.needs s;
  }
    where
      move : (u : List ℕ) (x : ℕ) → Memᴰ x (I.candidates s) → Good I s t u → Room u → May (Gives I.needs) s u x → Good I s t (set u x s)
      move u x m g r y = record {
        kept = ex.kept;
        capped = moved-capped I.n I.cap u x s (omega (arith, I.candidates-in s x m, g.fits.len)) r g.capped;
        fits = ex.fits I.C g.fits;
        inside = λ i p. inside i p (at_i i);
        old = λ i p l. old i p l (at_i i);
        new = λ i p l. new i p l (at_i i);
      }
        where
          ex : Exchanged I.n (Gives I.needs) u (set u x s)
          ex = exchange I.n (Gives I.needs) u x s (I.candidates-in s x m) g.fits.len g.kept y

          at_i : (i : ℕ) → Moved u x s i
          at_i i = moved u x s (omega (arith, I.candidates-in s x m, g.fits.len)) i

          inside : (i : ℕ) → i < I.n → Moved u x s i → Memᴰ i (I.candidates (at (set u x s) i))
          inside i p (here e a b) = rw (a, e) m
          inside i p (stays e a) = rw a (g.inside i p)

          old : (i : ℕ) → i < I.n → at t i < s → Moved u x s i → at (set u x s) i ≡ at t i
          old i p l (here e a b) = absurd (omega (arith, g.old i p l, y.later))
          old i p l (stays e a) = omega (arith, g.old i p l)

          new : (i : ℕ) → i < I.n → s ≤ at t i → Moved u x s i → s ≤ at (set u x s) i
          new i p l (here e a b) = omega arith
          new i p l (stays e a) = omega (arith, g.new i p l)

  -- slot s of u has as many jobs as it takes, or takes no further one
  abbrev pub FullOrMaximal : List ℕ → Type 0
  FullOrMaximal u = (Room u → ⊥) ⊎ Full (Gives I.needs) s (I.candidates s) u

  -- each list of the family has one that is no worse and whose slot s is full or takes no further job
  pub dominated : (u : List ℕ) → Good I s t u → (v : List ℕ) × (Good I s t v × FullOrMaximal v) × Weak I.n v u
  dominated u g = let f = fill I.n (Gives I.needs) s (Good I s t) Room (I.candidates s) closed u g in (f.list, (f.good, f.full), f.weak)

  -- the jobs that u starts in slot s
  abbrev jobs_in : List ℕ → List ℕ
  jobs_in u = passing (in_slot u s) I.n

  jobs-in : (u : List ℕ) → (i : ℕ) → Memᴰ i (jobs_in u) ↔ ((i < I.n) × (at u i ≡ s))
  unfolding in_slot
  jobs-in u i = let w = passing-in (in_slot u s) I.n i in
      (λ m. ((w.0 m).0, (T-eqb (at u i) s).0 (w.0 m).1), λ h. w.1 (h.0, (T-eqb (at u i) s).1 h.1))

  -- what such a list starts there is maximal
  full-maximal : (u : List ℕ) → Good I s t u → FullOrMaximal u → Maximal I s t (jobs_in u)
  unfolding in_slot count
  full-maximal u g full = record {
    allowed = record {
      able = λ x m. let w = (jobs-in u x).0 m in runs-able I s t u g x w.0 w.1;
      candidate = λ x m. let w = (jobs-in u x).0 m in runs-candidate I s t u g x w.0 w.1;
      give-one = λ a j k p q mj mk e. runs-one I s t u g a j k p q ((jobs-in u j).0 mj).1 ((jobs-in u k).0 mk).1 e;
      few = λ R d w. omega (arith, g.capped.few s, pigeonhole R (jobs_in u) d w);
    };
    no_more = λ x out ok. ⊎_elim
        (λ r. r (ok.few (x ∷ jobs_in u) (out, passing-distinct (in_slot u s) I.n) (λ j m. m)))
        (λ f. f x (ok.candidate x (Memᴰ.head refl)) (may x out ok)) full;
  }
    where
      was : (a k : ℕ) → Gives I.needs a k → at u a + 1 ≡ s → at t a + 1 ≡ s
      was a k p e = omega (arith, seen I s t u g a (I.needs-in a k p).0 (omega arith))

      may : (x : ℕ) → ¬ (Memᴰ x (jobs_in u)) → Allowed I s t (x ∷ jobs_in u) → May (Gives I.needs) s u x
      may x out ok = record {
        able = record {
          free = g.new x x-in ab.free;
          ready = λ a d. omega (arith, ab.ready a d, g.old a (I.needs-in a x d).0 (ab.ready a d));
          take-one = λ a b p q e f. ab.take-one a b p q (was a x p e) (was b x q f);
        };
        later = let ne : at u x ≡ s → ⊥ = λ e. out ((jobs-in u x).1 (x-in, e)) in omega (arith, g.new x x-in ab.free);
        give-one = λ a k p q e f. let m = (jobs-in u k).1 ((I.needs-in a k q).1, f) in
            out (rw (ok.give-one a k x q p (Memᴰ.tail m) (Memᴰ.head refl) (was a x p e)) at m);
      }
        where
          x-in : x < I.n
          x-in = I.candidates-in s x (ok.candidate x (Memᴰ.head refl))

          ab : Able (Gives I.needs) s t x
          ab = ok.able x (Memᴰ.head refl)

  -- the maximal sets, tried in order, find the best list of the state, if each finds the best of its own
  pub maximal-slot : (Ss : List (List ℕ)) → TriesMaximal I s t Ss → s < I.C → State I s t → (f : List ℕ → Option (List ℕ))
      → ((S : List ℕ) → Memᴰ S Ss → State I (suc s) (place s S t) → Best I.n (Good I (suc s) (place s S t)) (f S))
      → Best I.n (Good I s t) (first f Ss)
  maximal-slot Ss tm h st f hf =
      first-best I.n s (Good I s t) (good-past I s t) f Ss tm.ordered (λ S m i k. I.candidates-in s i ((tm.maximal S m).allowed.candidate i k)) cover
      branch
    where
      cover : (u : List ℕ) → Good I s t u → (v : List ℕ) × (Good I s t v × OneOf I.n s Ss v) × Weak I.n v u
      cover u g =
          let d = dominated u g in
          let e = tm.each (jobs_in d.0) (full-maximal d.0 d.1.0 d.1.1) in
          (d.0, (d.1.0, (e.0, e.1, λ i l. (λ q. (e.2 i).0 ((jobs-in d.0 i).1 (l, q)), λ m. ((jobs-in d.0 i).0 ((e.2 i).1 m)).1))), d.2)

      branch : (S : List ℕ) → Memᴰ S Ss → Best I.n (λ u. Good I s t u × Row I.n s S u) (f S)
      branch S m =
          let ok = (tm.maximal S m).allowed in
          Best-iff I.n (Good I (suc s) (place s S t)) (λ u. Good I s t u × Row I.n s S u) (good-up I s t S h st ok)
          (λ u g. good-down I s t S h st ok u g.0 g.1)
          (f S) (hf S m (next-state I s t S h st ok))

-- a step that tries the maximal sets in order is right
pub maximal-right : (I : Instance) (step : Step) → ((s : ℕ) (t : List ℕ) → s < I.C → State I s t → TriesMaximal I s t (step s t))
    → Right I.n I.C (State I) (Good I) step
maximal-right I step tm = record {
  leaf = λ s t h st d. placed-best I s t h st (λ i l. (all-placed-is s t).0 d i (omega (arith, st.len)));
  over = λ t u st g. (all-placed-is I.C t).1 (λ i l. all_placed_lem I t u g i (omega (arith, st.len)));
  slot = λ s t h st. maximal-slot I s t (step s t) (tm s t h st) h st;
}
