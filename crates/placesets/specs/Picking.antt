-- What a number takes of a row of places: the places at its digits 1, or nothing where two of them share a giver in the slot before. They are
-- those of crate places, in the other order. Assumes nothing.
use Rattle.std.specs.Prelude.{◌≡◌, ◌⊎◌, ◌↔◌, Bool, ◌&&◌, ℕ, ◌<◌, Option, None, Some}
use Rattle.std.proofs.Math.Path.{refl, ap}
use Rattle.std.proofs.Common.{sym, ◌∙◌, inl, inr, true≢false, arith}
use Rattle.std.proofs.Math.Logic.{⊎_elim}
use Rattle.std.proofs.Math.Bool.{true, false}
use mathlib.Core.List.Memᴰ
use mathlib.Core.List.{List, [], ◌∷◌, map, Memᴰ}
use Rattle.rules.specs.Sizes.{max_width}
use Rattle.rules.specs.Basics.{choose, at, Distinct}
use Rattle.laws.specs.Lists.{map-mem, map-mem⁻¹}
use Rattle.laws.specs.Counting.{map-distinct}
use Rattle.jobset.specs.declared.Set.{Set}
use Rattle.jobset.specs.Sets.{member, empty, one, with, union, intersection, is_empty, members}
use Rattle.jobset.specs.Membership.{member-empty, in_one, in-union, set-ext}
use Rattle.jobset.specs.Members.{in_members}
use Rattle.jobset.specs.Tests.{absent, present, bool-ext}
use Rattle.places.specs.Rows.{bit-low, chosen, places_of, in-places, fitting, fitting-loose}
use Rattle.places.specs.Fit.{members-distinct}
use Rattle.placesets.specs.Listing.{row_from}
use Rattle.placesets.specs.Numbers.{falling_from, chosen-falling, in-falling}
use Rattle.layout.specs.Layout.{place_sets}

-- the places of a list one after the other, none where two share a giver; `places` and `givers` are those so far
unfoldable pub pick_from : (ℕ → Set) → Set → Set → List ℕ → Option Set
pick_from near places givers [] = Some places
pick_from near places givers (p ∷ ps) =
    let rest = pick_from near (with places p) (union givers (near p)) ps in
    choose (is_empty (intersection givers (near p))) rest None

-- what a number takes of a row
unfoldable pub picked_of : (ℕ → Set) → List ℕ → Set → Option Set
picked_of near row number = pick_from near empty empty (map (at row) (members number))

-- ---- of a list

module _ (near : ℕ → Set) where
  -- two share a giver
  from-shared : (ps : List ℕ) (places givers : Set) → fitting near givers ps ≡ false → pick_from near places givers ps ≡ None
  unfolding pick_from fitting choose
  from-shared [] places givers e = absurd (true≢false e)
  from-shared (p ∷ ps) places givers e = go (is_empty (intersection givers (near p))) e (from-shared ps (with places p) (union givers (near p)))
    where
      go : (b : Bool) → (b && fitting near (union givers (near p)) ps) ≡ false
          → (fitting near (union givers (near p)) ps ≡ false → pick_from near (with places p) (union givers (near p)) ps ≡ None)
          → choose b (pick_from near (with places p) (union givers (near p)) ps) None ≡ None
      go true e r = r e
      go false e r = refl

  -- no two do
  from-fits : (ps : List ℕ) (places givers : Set) → fitting near givers ps ≡ true
      → (S : Set) × (pick_from near places givers ps ≡ Some S) × ((k : ℕ) → (member S k ≡ true) ↔ ((member places k ≡ true) ⊎ Memᴰ k ps))
  unfolding pick_from fitting choose with
  from-fits [] places givers e = (places, refl, λ k. (inl, ⊎_elim (λ m. m) (λ m. absurd (Memᴰ.not-nil m))))
  from-fits (p ∷ ps) places givers e = go (is_empty (intersection givers (near p))) e (from-fits ps (union places (one p)) (union givers (near p)))
    where
      go : (b : Bool) → (b && fitting near (union givers (near p)) ps) ≡ true
          → (fitting near (union givers (near p)) ps ≡ true → (S : Set) × (pick_from near (union places (one p)) (union givers (near p)) ps ≡ Some S)
          × ((k : ℕ) → (member S k ≡ true) ↔ ((member (union places (one p)) k ≡ true) ⊎ Memᴰ k ps)))
          → (S : Set) × (choose b (pick_from near (union places (one p)) (union givers (near p)) ps) None ≡ Some S)
          × ((k : ℕ) → (member S k ≡ true) ↔ ((member places k ≡ true) ⊎ Memᴰ k (p ∷ ps)))
      go true e r = let s = r e in (
        s.0,
        s.1,
        λ k. let u = in-union places (one p) k in (
          λ m. ⊎_elim (λ w. ⊎_elim inl (λ o. inr (Memᴰ.head ((in_one p k).0 o))) (u.0 w)) (λ w. inr (Memᴰ.tail w)) ((s.2 k).0 m),
          λ w. (s.2 k).1 (⊎_elim (λ m. inl (u.1 (inl m))) (λ m. ⊎_elim (λ z. inl (u.1 (inr ((in_one p k).1 z)))) inr (Memᴰ.cases_cons m)) w),
        ),
      )
      go false e r = absurd (true≢false (sym e))

-- ---- of a number

-- where the numbers of a list differ so do those that they come from
injective : (f : ℕ → ℕ) (l : List ℕ) → Distinct (map f l) → (x y : ℕ) → Memᴰ x l → Memᴰ y l → f x ≡ f y → x ≡ y
injective f [] d x y m n e = absurd (Memᴰ.not-nil m)
injective f (z ∷ l) d x y m n e = go (Memᴰ.cases_cons m) (Memᴰ.cases_cons n) (injective f l d.1 x y)
  where
    -- none behind z has the number of z
    clash : (w : ℕ) → Memᴰ w l → f z ≡ f w → ⊥
    clash w k q = d.0 (rw q (map-mem f l w k))

    go : (x ≡ z) ⊎ Memᴰ x l → (y ≡ z) ⊎ Memᴰ y l → (Memᴰ x l → Memᴰ y l → f x ≡ f y → x ≡ y) → x ≡ y
    go (inl a) (inl b) r = a ∙ sym b
    go (inl a) (inr b) r = absurd (clash y b (ap f (sym a) ∙ e))
    go (inr a) (inl b) r = absurd (clash x a (ap f (sym b) ∙ sym e))
    go (inr a) (inr b) r = r a b e

module _ (near : ℕ → Set) (row : List ℕ) (number : Set) (low : number.bits < place_sets) (d : Distinct (chosen (row_from row max_width) number)) where
  -- the places, and those in the order of the code
  abbrev ps : List ℕ
  ps = chosen (row_from row max_width) number

  abbrev qs : List ℕ
  qs = map (at row) (members number)

  digit-in : (k : ℕ) → member number k ≡ true → Memᴰ k (falling_from max_width number)
  digit-in k m = (in-falling max_width number k).1 (bit-low number max_width k low m, m)

  -- the place at a digit
  pub place_in : (k : ℕ) → member number k ≡ true → Memᴰ (at row k) (chosen (row_from row max_width) number)
  place_in k m = rw (chosen-falling row max_width number) (map-mem (at row) (falling_from max_width number) k (digit-in k m))

  same-places : (p : ℕ) → Memᴰ p qs ↔ Memᴰ p ps
  same-places p = (
    map-mem⁻¹ (λ x. Memᴰ x ps) (at row) (members number) (λ k m. place_in k ((in_members number k).0 m).1) p,
    λ m. map-mem⁻¹ (λ x. Memᴰ x qs) (at row) (falling_from max_width number)
        (λ k w. let v = (in-falling max_width number k).0 w in map-mem (at row) (members number) k ((in_members number k).1 (omega arith, v.1)))
        p (rw (chosen-falling row max_width number) at m),
  )

  other-distinct : Distinct qs
  other-distinct = map-distinct (at row) (members number) (members-distinct number)
      (λ x y m n. injective (at row) (falling_from max_width number) (rw (chosen-falling row max_width number) at d) x y
      (digit-in x ((in_members number x).0 m).1) (digit-in y ((in_members number y).0 n).1))

  same-fits : fitting near empty qs ≡ fitting near empty ps
  same-fits =
      let f = fitting-loose near ps d in
      let g = fitting-loose near qs other-distinct in
      bool-ext (fitting near empty qs) (fitting near empty ps)
      (λ e. f.1 (λ p q k m n. g.0 e p q k ((same-places p).1 m) ((same-places q).1 n)))
      (λ e. g.1 (λ p q k m n. f.0 e p q k ((same-places p).0 m) ((same-places q).0 n)))

  -- no two share a giver: they are the places
  pub picked-places : fitting near empty (chosen (row_from row max_width) number) ≡ true → picked_of near row number
      ≡ Some (places_of (chosen (row_from row max_width) number))
  unfolding picked_of
  picked-places e =
      let s = from-fits near qs empty empty (same-fits ∙ e) in
      s.1 ∙ ap Some (set-ext s.0 (places_of ps) (λ k.
      let w = s.2 k in
      bool-ext (member s.0 k) (member (places_of ps) k)
      (λ m. (in-places ps k).1 ((same-places k).0 (⊎_elim (λ z. absurd (present (member empty k) z (member-empty k))) (λ z. z) (w.0 m))))
      (λ m. w.1 (inr ((same-places k).1 ((in-places ps k).0 m))))))

  -- two do, where nothing is taken
  pub picked-shared : picked_of near row number ≡ None → fitting near empty (chosen (row_from row max_width) number) ≡ false
  picked-shared e = absent (fitting near empty ps) (λ f. let z = picked-places f in cc)

  -- none do, where something is
  pub picked_fits : (S : Set) → picked_of near row number ≡ Some S → fitting near empty (chosen (row_from row max_width) number) ≡ true
  unfolding picked_of
  picked_fits S e = go (fitting near empty ps) refl
    where
      go : (b : Bool) → fitting near empty ps ≡ b → b ≡ true
      go true q = refl
      go false q = let z = from-shared near qs empty empty (same-fits ∙ q) in cc
