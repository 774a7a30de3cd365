-- One slot: first the jobs with a giver in the slot before, then the others in rising number; each gets the board that the words of
-- document 01 give it. Assumes nothing.
use Rattle.std.specs.Prelude.{◌≡◌, ◌≢◌, ◌⊎◌, ◌↔◌, Bool, length}
use Rattle.std.proofs.Math.Path.{refl, sym, ap}
use Rattle.std.proofs.Common.{◌∙◌, arith}
use Rattle.std.proofs.Math.Logic.{inl, inr, ⊎_elim}
use Rattle.std.proofs.Math.Bool.{true, false}
use mathlib.Core.List.Memᴰ
use mathlib.Core.List.{List, [], ◌∷◌, Memᴰ}
use Prim.Native.Nat.{ℕ, suc, ◌+◌, ◌≤◌, ◌<◌}
use Rattle.std.proofs.Math.Decide.{ℕ_discrete, dec_lt}
use Rattle.rules.specs.Sizes.{max_jobs}
use Rattle.rules.specs.Basics.{choose, at, Distinct}
use Rattle.rules.specs.Needs.{Need, Gives}
use Rattle.laws.specs.BoardWords.{Inherits, TakesFirst, Taken, Left, LowestLeft, dec-inherits, lowest-same}
use Rattle.jobset.specs.declared.Set.{Set}
use Rattle.jobset.specs.Sets.{member, set_at, empty, one, with, is_empty, lowest, members}
use Rattle.jobset.specs.Membership.{member-empty, in_one, in-union}
use Rattle.jobset.specs.Lowest.{below-lowest}
use Rattle.jobset.specs.Members.{in_members}
use Rattle.jobset.specs.Tests.{present}
use Rattle.places.specs.Fit.{members-distinct}
use Rattle.places.specs.Rows.{by_number, Sorted, in_row, row-sorted}
use Rattle.layout.specs.Layout.{tables_in}
use Rattle.placesets.specs.Listing.{Listable}
use Rattle.slotboards.specs.Placing.{Filling, filling, all_boards, takes, giver_at, inherit, leave, take_lowest, each, inherited, others_of}
use Rattle.slotboards.specs.Placing.{place_others, place_slot, last_of, Plan, Below64, Fits}
use Rattle.slotboards.specs.Left.{all_left, left-low, lowest-of, some_left}
use Rattle.slotboards.specs.Near.{near_to, job-place, no-giver, a-giver, inherits-so, inherits-not}
use Rattle.slotboards.specs.Moves.{State, kept-else, state-same, state-takes}

-- the jobs of the slots before s have their boards
pub record Given (n : ℕ) (needs : List Need) (t : List ℕ) (s : ℕ) (a : List ℕ) : Type 0 where
  pub size : length a ≡ max_jobs
  pub small : Below64 a
  pub behind : (i : ℕ) → n ≤ i → at a i ≡ 0
  pub handed : (g i : ℕ) → Gives needs g i → at t i < s → at t g + 1 ≡ at t i → at a i ≡ at a g
  pub lowest : (i : ℕ) → i < n → at t i < s → ¬ Inherits needs t i → LowestLeft n needs t a i (at a i)

-- a place that is not p
not_in : (q p : ℕ) (ps : List ℕ) → q ≢ p → ¬ (Memᴰ q ps) → ¬ (Memᴰ q (p ∷ ps))
not_in q p ps e k w = ⊎_elim e k (Memᴰ.cases_cons w)

-- what each place keeps, with those still to come, holds at the end
each_all : {A : Type 0} (f : ℕ → A → A) (In : ℕ → Type 0) (Inv : List ℕ → A → Type 0)
    → ((p : ℕ) (ps : List ℕ) (z : A) → ¬ (Memᴰ p ps) → In p → Inv (p ∷ ps) z → Inv ps (f p z))
    → (rest : List ℕ) (z : A) → Distinct rest → ((p : ℕ) → Memᴰ p rest → In p) → Inv rest z → Inv [] (each f rest z)
unfolding each
each_all f In Inv step [] z d i m = m
each_all f In Inv step (p ∷ ps) z d i m =
    each_all f In Inv step ps (f p z) d.1 (λ q k. i q (Memᴰ.tail k)) (step p ps z d.0 (i p (Memᴰ.head refl)) m)

module _ {n : ℕ} {words path : List ℕ} {count : ℕ} (P : Plan n words path count) (s : ℕ) (l : s < count) (a : List ℕ)
    (old : Given n P.needs P.starts s a) where
  open P use {needs, able}

  -- the start list
  abbrev pub t : List ℕ
  t = P.starts

  abbrev job : ℕ → ℕ
  job p = (tables_in words).who s p

  abbrev Here : ℕ → Type 0
  Here p = member (set_at path s) p ≡ true

  abbrev Now : (ℕ → Type 0) → Filling → Type 0
  Now D z = State P s l a D z

  abbrev near : ℕ → Set
  near p = near_to words path s p

  -- the job at place p takes its giver's board, or is left to the others
  abbrev pass_on : ℕ → Filling → Filling
  pass_on p z = inherit (tables_in words) s (last_of path s) p z

  abbrev leave_to : ℕ → Set → Set
  leave_to p S = leave (tables_in words) s (last_of path s) p S

  -- what the first pass gives
  abbrev after : Filling
  after = inherited (tables_in words) s (last_of path s) (set_at path s) a

  -- ---- the jobs with a giver in the slot before

  -- those that have their boards when `rest` is still to come
  abbrev First : List ℕ → ℕ → Type 0
  First rest q = Here q × ¬ (Memᴰ q rest) × (is_empty (near q) ≡ false)

  first_step : (p : ℕ) (ps : List ℕ) (z : Filling) → ¬ (Memᴰ p ps) → Here p → Now (First (p ∷ ps)) z → Now (First ps) (pass_on p z)
  unfolding inherit
  first_step p ps z d i m = go (is_empty (near p)) refl
    where
      go : (b : Bool) → is_empty (near p) ≡ b → Now (First ps) (choose b z (takes (job p) (at z.boards (giver_at (tables_in words) s (last_of path s) p)) z))
      go true e = unfold choose in state-same P s l a (First (p ∷ ps)) (First ps) z (λ q. (
        λ w. (w.0, not_in q p ps (λ k. present (is_empty (near p)) e (rw k at w.2)) w.1, w.2),
        λ w. (w.0, λ k. w.1 (Memᴰ.tail k), w.2),
      )) m
      go false e =
          let w = a-giver P s p l i e in
          let f : at t g ≢ s = λ k. omega (arith, w.1) in
          let same = kept-else P s l a (First (p ∷ ps)) z g f m in
          unfold choose in state-takes P s l a (First (p ∷ ps)) (First ps) z p (at z.boards g) i (λ k. k.1 (Memᴰ.head refl))
          (λ q. (
            λ k. which q k (ℕ_discrete q p),
            λ o. ⊎_elim (λ k. rw k (i, d, e)) (λ k. (k.0, λ v. k.1 (Memᴰ.tail v), k.2)) o,
          ))
          (m.small g)
          (λ j b v. same ∙ ap (at a) (able.kept.take-one g j (job p) w.0 b (w.1 ∙ sym here) (v ∙ sym here)))
          (λ k. absurd (k (inherits-so P s p l i e)))
          (λ q k v. absurd (v (inherits-so P s q l k.0 k.2))) m
        where
          g : ℕ
          g = giver_at (tables_in words) s (last_of path s) p

          here : at t (job p) ≡ s
          here = (able.at_place s p l i).2

          which : (q : ℕ) → First ps q → Dec (q ≡ p) → (q ≡ p) ⊎ First (p ∷ ps) q
          which q k (yes v) = inl v
          which q k (no v) = inr (k.0, not_in q p ps v k.1, k.2)

  in-here : (p : ℕ) → Memᴰ p (members (set_at path s)) ↔ Here p
  in-here p = (λ k. ((in_members (set_at path s) p).0 k).1, λ k. let w = able.at_place s p l k in (in_members (set_at path s) p).1 (omega (arith, w.0), k))

  first_done : Now (First []) after
  unfolding inherited
  first_done = each_all pass_on Here (λ rest z. Now (First rest) z) first_step ps (filling all_boards a) (members-distinct (set_at path s))
      (λ p. (in-here p).0) start
    where
      ps : List ℕ
      ps = members (set_at path s)

      start : Now (First ps) (filling all_boards a)
      start = record {
        size = old.size;
        small = old.small;
        here = λ p d. d.0;
        kept = λ x k. refl;
        left = λ c k. let w = left-low c k in (w.0, w.1, λ p d. absurd (d.1 ((in-here p).1 d.0)));
        taken = λ c i j k. absurd (present (member all_boards c) (all_left c i j) k);
        handed = λ p g d. absurd (d.1 ((in-here p).1 d.0));
        lowest = λ p d. absurd (d.1 ((in-here p).1 d.0));
      }

  -- ---- the places of the others

  -- a set has the others that do not stand in `rest`
  abbrev Others : List ℕ → Set → Type 0
  Others rest S = (q : ℕ) → (member S q ≡ true) ↔ (Here q × ¬ (Memᴰ q rest) × (is_empty (near q) ≡ true))

  others-step : (p : ℕ) (ps : List ℕ) (S : Set) → ¬ (Memᴰ p ps) → Here p → Others (p ∷ ps) S → Others ps (leave_to p S)
  unfolding leave with
  others-step p ps S d i m = go (is_empty (near p)) refl
    where
      go : (b : Bool) → is_empty (near p) ≡ b → Others ps (choose b (with S p) S)
      go true e q = unfold choose in (
        λ k. ⊎_elim (λ v. let w = (m q).0 v in (w.0, λ u. w.1 (Memᴰ.tail u), w.2)) (λ v. rw ((in_one p q).0 v) (i, d, e)) ((in-union S (one p) q).0 k),
        λ k. (in-union S (one p) q).1 (which k (ℕ_discrete q p)),
      )
        where
          which : Here q × ¬ (Memᴰ q ps) × (is_empty (near q) ≡ true) → Dec (q ≡ p) → (member S q ≡ true) ⊎ (member (one p) q ≡ true)
          which k (yes v) = inr ((in_one p q).1 v)
          which k (no v) = inl ((m q).1 (k.0, not_in q p ps v k.1, k.2))
      go false e q = unfold choose in (
        λ k. let w = (m q).0 k in (w.0, λ u. w.1 (Memᴰ.tail u), w.2),
        λ k. (m q).1 (k.0, not_in q p ps (λ v. present (is_empty (near q)) k.2 (rw v e)) k.1, k.2),
      )

  abbrev pub others : Set
  others = others_of (tables_in words) s (last_of path s) (set_at path s)

  others-done : Others [] others
  unfolding others_of
  others-done = each_all leave_to Here Others others-step (members (set_at path s)) empty (members-distinct (set_at path s)) (λ p. (in-here p).0)
      (λ q. (λ k. absurd (present (member empty q) k (member-empty q)), λ k. absurd (k.1 ((in-here q).1 k.0))))

  pub others-listable : Listable ((tables_in words).who s) others
  others-listable = record {
    eight = λ p k. (able.at_place s p l ((others-done p).0 k).0).0;
    apart = λ p q k v. able.apart s p q l ((others-done p).0 k).0 ((others-done q).0 v).0;
  }

  -- ---- the others, in rising number

  -- those that have their boards when `rest` is still to come
  abbrev Second : List ℕ → ℕ → Type 0
  Second rest q = Here q × ¬ (Memᴰ q rest)

  -- `rest` has others by rising number, and the others before it have lower numbers
  record Row (rest : List ℕ) : Type 0 where
    sorted : Sorted job rest
    inside : (q : ℕ) → Memᴰ q rest → Here q × ¬ Inherits needs t (job q)
    before : (q r : ℕ) → Second rest q → ¬ Inherits needs t (job q) → Memᴰ r rest → job q < job r

  row_next : (p : ℕ) (ps : List ℕ) → Row (p ∷ ps) → Row ps
  row_next p ps r = record {
    sorted = r.sorted.1;
    inside = λ q k. r.inside q (Memᴰ.tail k);
    before = λ q v k i w. go q v k i w (ℕ_discrete q p);
  }
    where
      go : (q v : ℕ) → Second ps q → ¬ Inherits needs t (job q) → Memᴰ v ps → Dec (q ≡ p) → job q < job v
      go q v k i w (yes e) = rw e (r.sorted.0 v w)
      go q v k i w (no e) = r.before q v (k.0, λ u. ⊎_elim e k.1 (Memᴰ.cases_cons u)) i (Memᴰ.tail w)

  -- the next one finds a board left
  second-left : (p : ℕ) (ps : List ℕ) (z : Filling) → Now (Second (p ∷ ps)) z
      → (is_empty z.free ≡ false) × (lowest z.free < 64) × (member z.free (lowest z.free) ≡ true)
  second-left p ps z m =
      let e = some_left z.free (λ q. at z.boards (job q)) (λ c i j k. let w = m.taken c i j k in (w.0, (able.at_place s w.0 l w.1.0).0, w.2)) in
      let w = lowest-of z.free (λ q k. (m.left q k).1) e in
      (e, w.0, w.1)

  -- the lowest of those left
  second-lowest : (p : ℕ) (ps : List ℕ) (z : Filling) → Row (p ∷ ps) → Now (Second (p ∷ ps)) z → LowestLeft n needs t z.boards (job p) (lowest z.free)
  second-lowest p ps z r m = record {
    left = record {
      from-1 = (m.left (lowest z.free) free.2).0;
      not_taken = λ w. let k = job-place P w.job s w.in-file (w.beside ∙ here) in taken_not w k.0 k.1 k.2;
    };
    lowest = λ d w. not-below d w (dec_lt d (lowest z.free));
  }
    where
      free : (is_empty z.free ≡ false) × (lowest z.free < 64) × (member z.free (lowest z.free) ≡ true)
      free = second-left p ps z m

      here : at t (job p) ≡ s
      here = (able.at_place s p l (r.inside p (Memᴰ.head refl)).0).2

      -- a job that takes first has its board
      taken_not : (w : Taken n needs t z.boards (job p) (lowest z.free)) (q : ℕ) → Here q → job q ≡ w.job → ⊥
      taken_not w q i e = (m.left (lowest z.free) free.2).2 q (i, λ k. out k w.first) (ap (at z.boards) e ∙ w.has-it)
        where
          out : Memᴰ q (p ∷ ps) → TakesFirst needs t w.job (job p) → ⊥
          out k (inl v) = (r.inside q k).1 (rw e v)
          out k (inr v) = ⊎_elim (λ u. omega (arith, ap job u)) (λ u. omega (arith, r.sorted.0 q u)) (Memᴰ.cases_cons k)

      not-below : (d : ℕ) → Left n needs t z.boards (job p) d → Dec (d < lowest z.free) → lowest z.free ≤ d
      not-below d w (no k) = omega arith
      not-below d w (yes k) =
          let u = m.taken d w.from-1 (omega (arith, free.1)) (below-lowest z.free d k) in
          let v = able.at_place s u.0 l u.1.0 in
          absurd (w.not_taken (record {
            job = job u.0;
            in-file = v.1;
            beside = v.2 ∙ sym here;
            first = first u.0 u.1 (dec-inherits needs t (job u.0));
            has-it = u.2;
          }))
        where
          first : (q : ℕ) → Second (p ∷ ps) q → Dec (Inherits needs t (job q)) → TakesFirst needs t (job q) (job p)
          first q i (yes v) = inl v
          first q i (no v) = inr (r.before q p i v (Memᴰ.head refl))

  second-step : (p : ℕ) (ps : List ℕ) (z : Filling) → Row (p ∷ ps) → Now (Second (p ∷ ps)) z → Now (Second ps) (take_lowest (tables_in words) s p z)
  unfolding take_lowest
  second-step p ps z r m = state-takes P s l a (Second (p ∷ ps)) (Second ps) z p (lowest z.free) i.0 (λ k. k.1 (Memᴰ.head refl))
      (λ q. (
        λ k. which q k (ℕ_discrete q p),
        λ o. ⊎_elim (λ k. rw k (i.0, λ v. omega (arith, r.sorted.0 p v))) (λ k. (k.0, λ v. k.1 (Memᴰ.tail v))) o,
      ))
      (second-left p ps z m).1
      (λ g b e. absurd (i.1 (g, b, e ∙ sym (able.at_place s p l i.0).2)))
      (λ k. second-lowest p ps z r m)
      (λ q k v w. ⊎_elim i.1 (λ u. lower q k v u (ℕ_discrete q p)) w) m
    where
      i : Here p × ¬ Inherits needs t (job p)
      i = r.inside p (Memᴰ.head refl)

      which : (q : ℕ) → Second ps q → Dec (q ≡ p) → (q ≡ p) ⊎ Second (p ∷ ps) q
      which q k (yes v) = inl v
      which q k (no v) = inr (k.0, not_in q p ps v k.1)

      lower : (q : ℕ) → Second ps q → ¬ Inherits needs t (job q) → job p < job q → Dec (q ≡ p) → ⊥
      lower q k v u (yes e) = omega (arith, ap job e)
      lower q k v u (no e) = omega (arith, r.before q p (k.0, not_in q p ps e k.1) v (Memᴰ.head refl))

  second-all : (rest : List ℕ) (z : Filling) → Row rest → Now (Second rest) z
      → Fits words s rest z × Now (Second []) (each (take_lowest (tables_in words) s) rest z)
  unfolding each
  second-all [] z r m = (tt, m)
  second-all (p ∷ ps) z r m =
      let w = second-left p ps z m in
      let v = able.at_place s p l (r.inside p (Memᴰ.head refl)).0 in
      let few = able.few in
      let k = second-all ps (take_lowest (tables_in words) s p z) (row_next p ps r) (second-step p ps z r m) in
      ((v.0, omega (arith, v.1), w.0, w.1, k.0), k.1)

  row : List ℕ
  row = by_number ((tables_in words).who s) (members others)

  in-others : (q : ℕ) → Memᴰ q row ↔ (Here q × ¬ Inherits needs t (job q))
  unfolding row
  in-others q = (
    λ k. let w = (others-done q).0 ((in_members others q).0 ((in_row job (members others) q).0 k)).1 in (w.0, no-giver P s q l w.0 w.2),
    λ k. let w = able.at_place s q l k.0 in
        let o = (others-done q).1 (k.0, Memᴰ.not-nil, inherits-not P s q l k.0 k.1) in
        (in_row job (members others) q).1 ((in_members others q).1 (omega (arith, w.0), o)),
  )

  row_is : Row row
  unfolding row
  row_is = record {
    sorted = row-sorted job (members others) (members-distinct others)
        (λ p q k v. others-listable.apart p q ((in_members others p).0 k).1 ((in_members others q).0 v).1);
    inside = λ q k. (in-others q).0 k;
    before = λ q r k i w. absurd (k.1 ((in-others q).1 (k.0, i)));
  }

  second-done : Fits words s row after × Now (Second []) (each (take_lowest (tables_in words) s) row after)
  second-done = second-all row after row_is
      (state-same P s l a (First []) (Second row) after (λ q. (
        λ k. (k.0, Memᴰ.not-nil, not-empty q k (is_empty (near q)) refl),
        λ k. (k.0, λ v. ((in-others q).0 v).1 (inherits-so P s q l k.0 k.2)),
      )) first_done)
    where
      not-empty : (q : ℕ) → Second row q → (b : Bool) → is_empty (near q) ≡ b → b ≡ false
      not-empty q k false e = refl
      not-empty q k true e = absurd (k.1 ((in-others q).1 (k.0, no-giver P s q l k.0 e)))

  -- each of the others finds a board left
  pub others-fit : Fits words s (by_number ((tables_in words).who s) (members others)) after
  unfolding row
  others-fit = second-done.0

  -- ---- the whole slot

  finish : (z : Filling) → Now (Second []) z → Given n needs t (suc s) z.boards
  finish z m = record {
    size = m.size;
    small = m.small;
    behind = λ i k. m.kept i (λ p d e. omega (arith, able.at_place s p l d.0)) ∙ old.behind i k;
    handed = λ g i b k e. handed-now g i b e (dec_lt (at t i) s) k;
    lowest = λ i k v w. lowest-now i k w (dec_lt (at t i) s) v;
  }
    where
      past : (i : ℕ) → at t i < s → at z.boards i ≡ at a i
      past i k = kept-else P s l a (Second []) z i (λ e. omega arith) m

      -- a job of the slot has its place
      placed : (F : ℕ → Type 0) → ((p : ℕ) → Here p → F (job p)) → (i : ℕ) → i < n → at t i ≡ s → F i
      placed F f i k e = let w = job-place P i s k e in rw w.2 at (f w.0 w.1)

      handed-now : (g i : ℕ) → Gives needs g i → at t g + 1 ≡ at t i → Dec (at t i < s) → at t i < suc s → at z.boards i ≡ at z.boards g
      handed-now g i b e (yes k) v = past i k ∙ old.handed g i b k e ∙ sym (past g (omega arith))
      handed-now g i b e (no k) v =
          let f = placed (λ x. Gives needs g x → at z.boards x ≡ at a g) (λ p d c. m.handed p g (d, Memᴰ.not-nil) c (omega arith)) in
          f i (able.needs-in g i b).1 (omega arith) b ∙ sym (past g (omega arith))

      lowest-now : (i : ℕ) → i < n → ¬ Inherits needs t i → Dec (at t i < s) → at t i < suc s → LowestLeft n needs t z.boards i (at z.boards i)
      lowest-now i k w (yes v) u =
          rw (past i v) (lowest-same n needs t a z.boards i (at a i) (λ j _ e _. sym (past j (omega (arith, e)))) (old.lowest i k v w))
      lowest-now i k w (no v) u =
          let f = placed (λ x. ¬ Inherits needs t x → LowestLeft n needs t z.boards x (at z.boards x)) (λ p d. m.lowest p (d, Memᴰ.not-nil)) in
          f i k (omega arith) w

  pub slot-given : Given n needs t (suc s) (place_slot (tables_in words) s (last_of path s) (set_at path s) a)
  unfolding place_slot place_others row
  slot-given = finish (each (take_lowest (tables_in words) s) row after) second-done.1
