-- A state that branches: where all that fits is within the cap, what is forced is in every set tried, and the sets come from the tied
-- candidates alone, in the same order. Whatever the state, as code meets it. Assumes nothing.
use Rattle.std.specs.Prelude.{◌≡◌, ◌⊎◌, ◌↔◌, Bool}
use Rattle.std.proofs.Math.Path.{refl, ap, ap₂}
use Rattle.std.proofs.Common.{sym, ◌∙◌, pow-suc, length-append}
use Rattle.std.proofs.Math.Logic.{inl, inr, ⊎_elim}
use Rattle.std.proofs.Math.Bool.{true, false, or-true, or-false, and-eq-true_iff}
use mathlib.Core.List.Memᴰ
use mathlib.Core.List.{List, [], ◌∷◌, ◌++◌, map, append-nil, Memᴰ}
use Prim.Native.Nat.{ℕ, zero, suc, ◌+◌, ◌^◌, ◌≤◌, ◌<◌}
use Rattle.std.proofs.Math.Nat.{one-mul}
use native.Mathlib.Omega.{arith}
use borrow.Author.Tests.{eq-eqb, ne_eqb}
use Rattle.std.specs.Int.Bits.{bit_or, or_shifted_r}
use Rattle.std.proofs.Math.ListN.{length}
use Rattle.rules.specs.Basics.{choose, filter, Distinct}
use Rattle.laws.specs.Tests.{T_true}
use Rattle.laws.specs.Lists.{Within, dec_mem, filter-mem, filter-mem⁻¹, map_same}
use Rattle.laws.specs.Counting.{pigeonhole, distinct_append, filter-distinct}
use Rattle.jobset.specs.declared.Set.{Set}
use Rattle.jobset.specs.Sets.{member, one, with, union, minus, intersection, is_subset, is_empty, size, members, Subset}
use Rattle.jobset.specs.Membership.{member-with, in-union}
use Rattle.jobset.specs.Inclusion.{subset-antisym}
use Rattle.jobset.specs.Members.{in_members}
use Rattle.jobset.specs.Tests.{absent, present, bool-ext}
use Rattle.places.specs.Rows.{bit-low, empty-says, by_number, Sorted, row-distinct, in_row, row-sorted, chosen, places_of, in-places, Loose, is_try, is-try}
use Rattle.places.specs.Rows.{picks, tried_below}
use Rattle.places.specs.Tables.{Tables}
use Rattle.places.specs.Slot.{Candidates, is_forced, carried, candidates_at, near_at, able_of, row_at, fit_of, most_of, tries_at, in-forced, in-tied}
use Rattle.places.specs.Slot.{candidates-held}
use Rattle.places.specs.Slot.{in-row-at, most-is}
use Rattle.places.specs.Fit.{members-distinct, size_is, Ties, fit-most}
use Rattle.places.proofs.OneSet.{ties-at}

-- ---- the sets tried, by recursion over the row

-- of the parts of a row those that pass a test, each as g shows it: those with the first place, then those without it
tries : {A : Type 0} → (List ℕ → Bool) → (List ℕ → A) → List ℕ → List A
tries Q g [] = choose (Q []) (g [] ∷ []) []
tries Q g (p ∷ row) = tries (λ ps. Q (p ∷ ps)) (λ ps. g (p ∷ ps)) row ++ tries Q g row

-- the same of the numbers below b, from the highest down
below : {A : Type 0} → (List ℕ → Bool) → (List ℕ → A) → List ℕ → ℕ → List A
below Q g row zero = []
below Q g row (suc b) =
    let rest = below Q g row b in
    choose (Q (picks row b)) (g (picks row b) ∷ rest) rest

tried-below : {A : Type 0} (near : ℕ → Set) (row : List ℕ) (most : ℕ) (f : Set → A) (b : ℕ)
    → map f (tried_below near row most b) ≡ below (is_try near most) (λ ps. f (places_of ps)) row b
unfolding tried_below below
tried-below near row most f zero = refl
tried-below {A} near row most f (suc b) = go (is_try near most (picks row b)) (tried-below near row most f b)
  where
    go : (a : Bool) → map f (tried_below near row most b) ≡ below (is_try near most) (λ ps. f (places_of ps)) row b
        → map f (choose a (places_of (picks row b) ∷ tried_below near row most b) (tried_below near row most b))
        ≡ choose a (f (places_of (picks row b)) ∷ below (is_try near most) (λ ps. f (places_of ps)) row b) (below (is_try near most) (λ ps. f (places_of ps)) row b)
    go true e = unfold choose in ap (λ (l : List A). f (places_of (picks row b)) ∷ l) e
    go false e = unfold choose in e

-- a bit past the row takes nothing of it
chosen-high : (row : List ℕ) (x : Set) (n : ℕ) → length row ≤ n → chosen row (with x n) ≡ chosen row x
unfolding chosen
chosen-high [] x n l = refl
chosen-high (q ∷ row) x n l =
    let e : member (with x n) (length row) ≡ member x (length row) = rw (member-with, ne_eqb (length row) n (omega arith), or-false) in
    rw (e, chosen-high row x n (omega arith)) refl

module _ (p : ℕ) (row : List ℕ) (b : ℕ) (l : b < 2 ^ length row) where
  -- the first place has the highest bit
  picks-low : picks (p ∷ row) b ≡ picks row b
  unfolding chosen choose
  picks-low = rw (absent (member (record { bits = b }) (length row)) (λ m. omega (arith, bit-low (record { bits = b }) (length row) (length row) l m))) refl

  with-high : chosen (p ∷ row) (with (record { bits = b }) (length row)) ≡ p ∷ picks row b
  unfolding chosen choose
  with-high = rw (top, chosen-high row (record { bits = b }) (length row) (omega arith)) refl
    where
      top : member (with (record { bits = b }) (length row)) (length row) ≡ true
      top = rw (member-with, eq-eqb (length row) (length row) refl, or-true)

  picks-high : picks (p ∷ row) (b + 2 ^ length row) ≡ p ∷ picks row b
  unfolding with union one
  picks-high =
      let o = one-mul (2 ^ length row) in
      let e : b + 2 ^ length row ≡ bit_or b (2 ^ length row) = omega (arith, o, ap (bit_or b) o, or_shifted_r 1 (length row) b l) in
      ap (picks (p ∷ row)) e ∙ with-high

module _ {A : Type 0} (Q : List ℕ → Bool) (g : List ℕ → A) (p : ℕ) (row : List ℕ) where
  below-low : (b : ℕ) → b ≤ 2 ^ length row → below Q g (p ∷ row) b ≡ below Q g row b
  unfolding below
  below-low zero l = refl
  below-low (suc b) l = rw (picks-low p row b (omega arith), below-low b (omega arith)) refl

  below-high : (b : ℕ) → b ≤ 2 ^ length row
      → below Q g (p ∷ row) (b + 2 ^ length row) ≡ below (λ ps. Q (p ∷ ps)) (λ ps. g (p ∷ ps)) row b ++ below Q g (p ∷ row) (2 ^ length row)
  unfolding below
  below-high zero l = let e : 0 + 2 ^ length row ≡ 2 ^ length row = omega arith in ap (below Q g (p ∷ row)) e
  below-high (suc b) l = ap (below Q g (p ∷ row)) e ∙ rw (picks-high p row b (omega arith), below-high b (omega arith)) (go (Q (p ∷ picks row b)))
    where
      e : suc b + 2 ^ length row ≡ suc (b + 2 ^ length row)
      e = omega arith

      first : List A
      first = below (λ ps. Q (p ∷ ps)) (λ ps. g (p ∷ ps)) row b

      then : List A
      then = below Q g (p ∷ row) (2 ^ length row)

      go : (a : Bool) → choose a (g (p ∷ picks row b) ∷ (first ++ then)) (first ++ then) ≡ choose a (g (p ∷ picks row b) ∷ first) first ++ then
      go true = unfold choose in refl
      go false = unfold choose in refl

below_all : {A : Type 0} (Q : List ℕ → Bool) (g : List ℕ → A) (row : List ℕ) → below Q g row (2 ^ length row) ≡ tries Q g row
unfolding tries
below_all Q g [] = unfold below chosen in refl
below_all {A} Q g (p ∷ row) =
    let e : 2 ^ suc (length row) ≡ 2 ^ length row + 2 ^ length row = omega (arith, pow-suc 2 (length row)) in
    ap (below Q g (p ∷ row)) e ∙ below-high Q g p row (2 ^ length row) (omega arith)
    ∙ ap₂ (λ (a b : List A). a ++ b) (below_all (λ ps. Q (p ∷ ps)) (λ ps. g (p ∷ ps)) row)
    (below-low Q g p row (2 ^ length row) (omega arith) ∙ below_all Q g row)

-- so the sets tried, through f
tried-all : {A : Type 0} (near : ℕ → Set) (row : List ℕ) (most : ℕ) (f : Set → A)
    → map f (tried_below near row most (2 ^ length row)) ≡ tries (is_try near most) (λ ps. f (places_of ps)) row
tried-all near row most f = tried-below near row most f (2 ^ length row) ∙ below_all (is_try near most) (λ ps. f (places_of ps)) row

-- ---- places that are in every part that passes

-- places of the row, none twice
abbrev Part : List ℕ → List ℕ → Type 0
Part row ps = Distinct ps × Within ps row

part-nil : Part [] []
part-nil = (tt, λ q m. m)

part-put : (p : ℕ) (row ps : List ℕ) → Distinct (p ∷ row) → Part row ps → Part (p ∷ row) (p ∷ ps)
part-put p row ps d w = ((λ m. d.0 (w.1 p m), w.0), λ q m. ⊎_elim (λ e. Memᴰ.head e) (λ k. Memᴰ.tail (w.1 q k)) (Memᴰ.cases_cons m))

part-leave : (p : ℕ) (row ps : List ℕ) → Part row ps → Part (p ∷ row) ps
part-leave p row ps w = (w.0, λ q m. Memᴰ.tail (w.1 q m))

-- where no part passes there is none
none_passes : {A : Type 0} (row : List ℕ) (Q : List ℕ → Bool) (g : List ℕ → A) → Distinct row
    → ((ps : List ℕ) → Part row ps → Q ps ≡ true → ⊥) → tries Q g row ≡ []
unfolding tries
none_passes [] Q g d f = unfold choose in rw (absent (Q []) (f [] part-nil)) refl
none_passes (p ∷ row) Q g d f = rw (
  none_passes row (λ ps. Q (p ∷ ps)) (λ ps. g (p ∷ ps)) d.1 (λ ps w. f (p ∷ ps) (part-put p row ps d w)),
  none_passes row Q g d.1 (λ ps w. f ps (part-leave p row ps w)),
) refl

module _ (t : ℕ → Bool) where
  -- with all places of the row that fail the test
  abbrev Full : List ℕ → List ℕ → Type 0
  Full row ps = (p : ℕ) → Memᴰ p row → t p ≡ false → Memᴰ p ps

  -- every part that passes Q is full; a full part passes Q where its places that pass t pass R, and is shown as they are
  record Same {A : Type 0} (row : List ℕ) (Q R : List ℕ → Bool) (g h : List ℕ → A) : Type 0 where
    full : (ps : List ℕ) → Part row ps → Q ps ≡ true → Full row ps
    test : (ps : List ℕ) → Part row ps → Full row ps → Q ps ≡ R (filter t ps)
    shown : (ps : List ℕ) → Part row ps → Full row ps → g ps ≡ h (filter t ps)

  -- then the row of the places that pass t gives the same
  passing-alone : {A : Type 0} (row : List ℕ) (Q R : List ℕ → Bool) (g h : List ℕ → A) → Distinct row → Same row Q R g h
      → tries Q g row ≡ tries R h (filter t row)
  unfolding tries filter
  passing-alone [] Q R g h d w = rw (w.test [] part-nil (λ p m f. m), w.shown [] part-nil (λ p m f. m)) refl
  passing-alone {A} (p ∷ row) Q R g h d w = go (t p) refl (λ Q R g h. passing-alone row Q R g h d.1)
    where
      full_put : (ps : List ℕ) → Full row ps → Full (p ∷ row) (p ∷ ps)
      full_put ps f q m e = ⊎_elim (λ k. Memᴰ.head k) (λ k. Memᴰ.tail (f q k e)) (Memᴰ.cases_cons m)

      -- of a part with p, what is full of the row behind p
      full-rest : (ps : List ℕ) → Full (p ∷ row) (p ∷ ps) → Full row ps
      full-rest ps f q m e = ⊎_elim (λ k. absurd (d.0 (rw k at m))) (λ k. k) (Memᴰ.cases_cons (f q (Memᴰ.tail m) e))

      go : (b : Bool) → t p ≡ b → ((Q R : List ℕ → Bool) (g h : List ℕ → A) → Same row Q R g h → tries Q g row ≡ tries R h (filter t row))
          → tries (λ ps. Q (p ∷ ps)) (λ ps. g (p ∷ ps)) row ++ tries Q g row ≡ tries R h (choose b (p ∷ filter t row) (filter t row))
      go true e r = unfold choose tries in
          ap₂ (λ (a b : List A). a ++ b)
          (r (λ ps. Q (p ∷ ps)) (λ ps. R (p ∷ ps)) (λ ps. g (p ∷ ps)) (λ ps. h (p ∷ ps)) (record {
            full = λ ps k q. full-rest ps (w.full (p ∷ ps) (part-put p row ps d k) q);
            test = λ ps k f. w.test (p ∷ ps) (part-put p row ps d k) (full_put ps f) ∙ ap R (taken ps);
            shown = λ ps k f. w.shown (p ∷ ps) (part-put p row ps d k) (full_put ps f) ∙ ap h (taken ps);
          }))
          (r Q R g h (record {
            full = λ ps k q x m. w.full ps (part-leave p row ps k) q x (Memᴰ.tail m);
            test = λ ps k f. w.test ps (part-leave p row ps k) (full-leave ps f);
            shown = λ ps k f. w.shown ps (part-leave p row ps k) (full-leave ps f);
          }))
        where
          taken : (ps : List ℕ) → filter t (p ∷ ps) ≡ p ∷ filter t ps
          taken ps = unfold filter choose in rw e refl

          full-leave : (ps : List ℕ) → Full row ps → Full (p ∷ row) ps
          full-leave ps f q m n = ⊎_elim (λ k. absurd (present (t p) e (ap t (sym k) ∙ n))) (λ k. f q k n) (Memᴰ.cases_cons m)
      go false e r = unfold choose in
          ap (λ (l : List A). tries (λ ps. Q (p ∷ ps)) (λ ps. g (p ∷ ps)) row ++ l)
          (none_passes row Q g d.1 (λ ps k q. d.0 (k.1 p (w.full ps (part-leave p row ps k) q p (Memᴰ.head refl) e))))
          ∙ append-nil (tries (λ ps. Q (p ∷ ps)) (λ ps. g (p ∷ ps)) row)
          ∙ r (λ ps. Q (p ∷ ps)) R (λ ps. g (p ∷ ps)) h (record {
            full = λ ps k q. full-rest ps (w.full (p ∷ ps) (part-put p row ps d k) q);
            test = λ ps k f. w.test (p ∷ ps) (part-put p row ps d k) (full_put ps f) ∙ ap R (left ps);
            shown = λ ps k f. w.shown (p ∷ ps) (part-put p row ps d k) (full_put ps f) ∙ ap h (left ps);
          })
        where
          left : (ps : List ℕ) → filter t (p ∷ ps) ≡ filter t ps
          left ps = unfold filter choose in rw e refl

-- ---- rows of the same places are the same

sorted-same : (who : ℕ → ℕ) (xs ys : List ℕ) → Sorted who xs → Sorted who ys → Within xs ys → Within ys xs → xs ≡ ys
sorted-same who [] [] a b f g = refl
sorted-same who [] (y ∷ ys) a b f g = absurd (Memᴰ.not-nil (g y (Memᴰ.head refl)))
sorted-same who (x ∷ xs) [] a b f g = absurd (Memᴰ.not-nil (f x (Memᴰ.head refl)))
sorted-same who (x ∷ xs) (y ∷ ys) a b f g =
    ap₂ (λ (p : ℕ) (ps : List ℕ). p ∷ ps) first (sorted-same who xs ys a.1 b.1 (rest first a f) (rest (sym first) b g))
  where
    first : x ≡ y
    first =
        let u = Memᴰ.cases_cons (f x (Memᴰ.head refl)) in
        let v = Memᴰ.cases_cons (g y (Memᴰ.head refl)) in
        ⊎_elim (λ e. e) (λ m. ⊎_elim sym (λ n. absurd (omega (arith, b.0 x m, a.0 y n))) v) u

    rest : {x y : ℕ} {xs ys : List ℕ} → x ≡ y → Sorted who (x ∷ xs) → Within (x ∷ xs) (y ∷ ys) → Within xs ys
    rest e s w z m = ⊎_elim (λ k. absurd (omega (arith, s.0 z m, ap who (k ∙ sym e)))) (λ k. k) (Memᴰ.cases_cons (w z (Memᴰ.tail m)))

filter-sorted : (who : ℕ → ℕ) (t : ℕ → Bool) (row : List ℕ) → Sorted who row → Sorted who (filter t row)
unfolding filter
filter-sorted who t [] s = tt
filter-sorted who t (p ∷ row) s = go (t p) (filter-sorted who t row s.1)
  where
    go : (b : Bool) → Sorted who (filter t row) → Sorted who (choose b (p ∷ filter t row) (filter t row))
    go true r = unfold choose in (λ q m. s.0 q (filter-mem⁻¹ t row q m).0, r)
    go false r = unfold choose in r

-- ---- the slot

module _ (A : Tables) (s : ℕ) (done ran : Set) (low : (p : ℕ) → member ran p ≡ true → p < 64) where
  abbrev c : Candidates
  c = candidates_at A s done ran

  abbrev near : ℕ → Set
  near = near_at A s ran

  abbrev row : List ℕ
  row = row_at A s (candidates_at A s done ran)

  abbrev tied : ℕ → Bool
  tied = member (candidates_at A s done ran).tied

  abbrev free : Set
  free = minus (A.held s) (carried A s done)

  ties : Ties (candidates_at A s done ran).forced (candidates_at A s done ran).tied (candidates_at A s done ran).tying (near_at A s ran)
  ties = ties-at A s done ran low

  forced-near : (p k : ℕ) → member (candidates_at A s done ran).forced p ≡ true → member (near_at A s ran p) k ≡ true → ⊥
  unfolding candidates_at near_at is_forced
  forced-near p k m =
      let w = (and-eq-true_iff (is_subset (A.prev s p) done) (is_empty (intersection (A.prev s p) ran))).0 ((in-forced done ran (A.prev s) free p).0 m).2 in
      (empty-says (intersection (A.prev s p) ran)).0 w.1 k

  tied-low : (p : ℕ) → tied p ≡ true → p < 64
  unfolding candidates_at
  tied-low p m = ((in-tied done ran (A.prev s) free p).0 m).0

  row_is : (p : ℕ) → Memᴰ p row ↔ ((member c.forced p ≡ true) ⊎ (tied p ≡ true))
  unfolding able_of
  row_is p = let w = in-row-at A s c p in let v = in-union c.forced c.tied p in
      (λ m. v.0 (w.0 m).1, λ o. w.1 (⊎_elim (ties.forced-low p) (tied-low p) o, v.1 o))

  -- what is in the row and not tied is forced
  not-tied : (p : ℕ) → Memᴰ p row → tied p ≡ false → member c.forced p ≡ true
  not-tied p m e = ⊎_elim (λ f. f) (λ t. absurd (present (tied p) t e)) ((row_is p).0 m)

  once : Distinct row
  unfolding row_at
  once = row-distinct (A.who s) (members (able_of c)) (members-distinct (able_of c))

  -- as many as fit, at most one for each tying place: all that is forced is among them
  all-forced : (ps : List ℕ) → Part row ps → is_try near (fit_of c) ps ≡ true → Full tied row ps
  unfolding fit_of
  all-forced ps w t p m e = go (dec_mem p ps)
    where
      f : member c.forced p ≡ true
      f = not-tied p m e

      loose : Loose near ps
      loose = ((is-try near (fit_of c) ps w.0).0 t).1

      more : (x y k : ℕ) → Memᴰ x (p ∷ ps) → Memᴰ y (p ∷ ps) → member (near x) k ≡ true → member (near y) k ≡ true → x ≡ y
      more x y k a b u v = loose x y k (behind x k a u) (behind y k b v) u v
        where
          behind : (x k : ℕ) → Memᴰ x (p ∷ ps) → member (near x) k ≡ true → Memᴰ x ps
          behind x k a u = ⊎_elim (λ q. absurd (forced-near p k f (rw q at u))) (λ n. n) (Memᴰ.cases_cons a)

      go : Dec (Memᴰ p ps) → Memᴰ p ps
      go (yes n) = n
      go (no n) = absurd (omega (
        arith,
        ((is-try near (fit_of c) ps w.0).0 t).0,
        fit-most c.forced c.tied c.tying near ties (p ∷ ps) (n, w.0)
            (λ x k. (row_is x).0 (⊎_elim (λ q. rw q m) (w.1 x) (Memᴰ.cases_cons k))) more,
      ))

  -- ---- a part of the row that has all that is forced

  module _ (ps : List ℕ) (w : Part row ps) (f : Full tied row ps) where
    abbrev rest : List ℕ
    rest = filter tied ps

    parts : (p : ℕ) → Memᴰ p ps ↔ ((member c.forced p ≡ true) ⊎ Memᴰ p rest)
    parts p = (
      λ m. ⊎_elim inl (λ t. inr (filter-mem tied ps p m ((T_true (tied p)).1 t))) ((row_is p).0 (w.1 p m)),
      λ o. ⊎_elim (λ a. f p ((row_is p).1 (inl a)) (absent (tied p) (λ t. ties.other p a t))) (λ m. (filter-mem⁻¹ tied ps p m).0) o,
    )

    -- so many
    parts-size : length ps ≡ size c.forced + length rest
    parts-size = omega (
      arith,
      size_is c.forced ties.forced-low,
      length-append (members c.forced) rest,
      pigeonhole ps (members c.forced ++ rest) w.0
          (λ p m. ⊎_elim (λ a. Memᴰ.append_left rest ((in_members c.forced p).1 (ties.forced-low p a, a)))
          (λ k. Memᴰ.append_right (members c.forced) k) ((parts p).0 m)),
      pigeonhole (members c.forced ++ rest) ps
          (distinct_append (members c.forced) rest (members-distinct c.forced) (filter-distinct tied ps w.0)
          (λ p a b. ties.other p ((in_members c.forced p).0 a).1 ((T_true (tied p)).0 (filter-mem⁻¹ tied ps p b).1)))
          (λ p m. (parts p).1 (⊎_elim (λ a. inl ((in_members c.forced p).0 a).1) inr (Memᴰ.append_cases (members c.forced) m))),
    )

    -- what is forced has no near place
    parts_loose : Loose near ps ↔ Loose near rest
    parts_loose = (
      λ l p q k a b. l p q k ((parts p).1 (inr a)) ((parts q).1 (inr b)),
      λ l p q k a b u v. l p q k (nears p k a u) (nears q k b v) u v,
    )
      where
        nears : (p k : ℕ) → Memᴰ p ps → member (near p) k ≡ true → Memᴰ p rest
        nears p k a u = ⊎_elim (λ z. absurd (forced-near p k z u)) (λ z. z) ((parts p).0 a)

    parts-try : is_try near (fit_of c) ps ≡ is_try near (size c.tying) rest
    unfolding fit_of
    parts-try =
        let a = is-try near (fit_of c) ps w.0 in
        let b = is-try near (size c.tying) rest (filter-distinct tied ps w.0) in
        bool-ext (is_try near (fit_of c) ps) (is_try near (size c.tying) rest)
        (λ t. b.1 (omega (arith, (a.0 t).0, parts-size), parts_loose.0 (a.0 t).1))
        (λ t. a.1 (omega (arith, (b.0 t).0, parts-size), parts_loose.1 (b.0 t).1))

    parts-set : places_of ps ≡ union c.forced (places_of rest)
    parts-set = subset-antisym (places_of ps) (union c.forced (places_of rest))
        (unfold Subset in λ p m. (in-union c.forced (places_of rest) p).1 (⊎_elim inl (λ k. inr ((in-places rest p).1 k)) ((parts p).0 ((in-places ps p).0 m))))
        (unfold Subset in λ p m. (in-places ps p).1 ((parts p).1 (⊎_elim inl (λ k. inr ((in-places rest p).0 k)) ((in-union c.forced (places_of rest) p).0 m))))

  -- the tied places of the row are the row of the tied places
  row-tied : ((p q : ℕ) → member (A.held s) p ≡ true → member (A.held s) q ≡ true → A.who s p ≡ A.who s q → p ≡ q)
      → filter tied row ≡ by_number (A.who s) (members c.tied)
  unfolding row_at
  row-tied inj = sorted-same (A.who s) (filter tied row) (by_number (A.who s) (members c.tied))
      (filter-sorted (A.who s) tied row (sorted (able_of c) (λ p m. (row_is p).0 ((in-row-at A s c p).1 m))))
      (sorted c.tied (λ p m. inr m.1))
      (λ p m. let t = (T_true (tied p)).0 (filter-mem⁻¹ tied row p m).1 in
      (in_row (A.who s) (members c.tied) p).1 ((in_members c.tied p).1 (tied-low p t, t)))
      (λ p m. let t = ((in_members c.tied p).0 ((in_row (A.who s) (members c.tied) p).0 m)).1 in
      filter-mem tied row p ((row_is p).1 (inr t)) ((T_true (tied p)).1 t))
    where
      sorted : (S : Set) → ((p : ℕ) → (p < 64) × (member S p ≡ true) → (member c.forced p ≡ true) ⊎ (tied p ≡ true))
          → Sorted (A.who s) (by_number (A.who s) (members S))
      sorted S f = row-sorted (A.who s) (members S) (members-distinct S) (λ p q a b. inj p q (held p a) (held q b))
        where
          held : (p : ℕ) → Memᴰ p (members S) → member (A.held s) p ≡ true
          held p m = candidates-held A s done ran p (f p ((in_members S p).0 m))

-- where all that fits is within the cap, the sets tried are those of the tied candidates alone, one for each tying place, each with all that is forced
pub tied-alone : (A : Tables) (cap s : ℕ) (done ran : Set) → ((p : ℕ) → member ran p ≡ true → p < 64)
    → ((p q : ℕ) → member (A.held s) p ≡ true → member (A.held s) q ≡ true → A.who s p ≡ A.who s q → p ≡ q)
    → fit_of (candidates_at A s done ran) ≤ cap
    → tries_at A cap s done ran
    ≡ map (union (candidates_at A s done ran).forced)
    (tried_below (near_at A s ran) (by_number (A.who s) (members (candidates_at A s done ran).tied)) (size (candidates_at A s done ran).tying)
    (2 ^ length (by_number (A.who s) (members (candidates_at A s done ran).tied))))
unfolding tries_at
tied-alone A cap s done ran low inj h =
    ap (λ (m : ℕ). tried_below ν r m (2 ^ length r)) most
    ∙ sym (map_same (tried_below ν r (fit_of k) (2 ^ length r)))
    ∙ tried-all ν r (fit_of k) (λ S. S)
    ∙ passing-alone (member k.tied) r (is_try ν (fit_of k)) (is_try ν (size k.tying)) places_of (λ ps. union k.forced (places_of ps))
    (once A s done ran low) (record { full = all-forced A s done ran low; test = parts-try A s done ran low; shown = parts-set A s done ran low })
    ∙ ap (tries (is_try ν (size k.tying)) (λ ps. union k.forced (places_of ps))) (row-tied A s done ran low inj)
    ∙ sym (tried-all ν (by_number (A.who s) (members k.tied)) (size k.tying) (union k.forced))
  where
    k : Candidates
    k = candidates_at A s done ran

    ν : ℕ → Set
    ν = near_at A s ran

    r : List ℕ
    r = row_at A s (candidates_at A s done ran)

    most : most_of cap (candidates_at A s done ran) ≡ fit_of (candidates_at A s done ran)
    most = sym ((most-is cap (candidates_at A s done ran)).2 (fit_of (candidates_at A s done ran)) h (omega arith) (inr (omega arith)))
