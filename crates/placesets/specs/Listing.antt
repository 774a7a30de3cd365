-- The places of a set by falling job number in an array: the row of crate places, from its end. Assumes nothing.
use Rattle.std.specs.Prelude.{◌≡◌, refl, ◌⊎◌, ◌↔◌, ℕ, zero, suc, ◌+◌, ◌≤◌, ◌<◌, ltb, length, set}
use Rattle.std.proofs.Common.{sym, ap₂, ◌∙◌, add-one, get_or-set_same, get_or-set_other}
use Rattle.std.proofs.Math.Path.{ap}
use Rattle.std.proofs.Math.Logic.{inl, inr, ⊎_elim}
use Rattle.std.proofs.Math.Bool.{true}
use mathlib.Core.List.Memᴰ
use mathlib.Core.List.{List, [], ◌∷◌, Memᴰ}
use native.Mathlib.Omega.{arith}
use Rattle.std.proofs.Math.Decide.{ℕ_discrete}
use Rattle.rules.specs.Sizes.{max_width}
use Rattle.rules.specs.Basics.{choose, at, range, Distinct}
use Rattle.laws.specs.Tests.{T-ltb, by-choice}
use Rattle.laws.specs.Counting.{pigeonhole, range-below, length-range}
use Rattle.jobset.specs.declared.Set.{Set}
use Rattle.jobset.specs.Sets.{member, without, members, Subset}
use Rattle.jobset.specs.Membership.{without-same, without_other}
use Rattle.jobset.specs.Inclusion.{subset-refl, without-subset}
use Rattle.jobset.specs.Members.{in_members}
use Rattle.jobset.specs.Tests.{present}
use Rattle.threes.specs.Threes.{Eight}
use Rattle.places.specs.Rows.{by_number, Sorted, in_row, row-sorted}
use Rattle.places.specs.Fit.{members-distinct}

-- ---- what the functions give

-- of two places the one with the higher job
unfoldable pub later_of : (ℕ → ℕ) → ℕ → ℕ → ℕ
later_of who p q = choose (ltb (who p) (who q)) q p

-- the first k numbers of an array, the last of them first
unfoldable pub row_from : List ℕ → ℕ → List ℕ
row_from a zero = []
row_from a (suc k) = at a k ∷ row_from a k

-- the place has the highest job of the set
pub record Last (who : ℕ → ℕ) (places : Set) (last : ℕ) : Type 0 where
  pub is_member : member places last ≡ true
  pub highest : (p : ℕ) → member places p ≡ true → who p ≤ who last

-- of the eight places of a slot, with different jobs
pub record Listable (who : ℕ → ℕ) (places : Set) : Type 0 where
  pub eight : Eight places
  pub apart : (p q : ℕ) → member places p ≡ true → member places q ≡ true → who p ≡ who q → p ≡ q

-- the first `count` numbers of the array are the places by falling job number
pub record Listed (who : ℕ → ℕ) (places : Set) (row : List ℕ) (count : ℕ) : Type 0 where
  pub few : count ≤ max_width
  pub row_is : row_from row count ≡ by_number who (members places)

-- ---- lists by job number

sorted-distinct : (who : ℕ → ℕ) (ps : List ℕ) → Sorted who ps → Distinct ps
sorted-distinct who [] s = tt
sorted-distinct who (p ∷ ps) s = (λ m. omega (arith, s.0 p m), sorted-distinct who ps s.1)

sorted-few : (who : ℕ → ℕ) (ps : List ℕ) → Sorted who ps → ((p : ℕ) → Memᴰ p ps → p < max_width) → length ps ≤ max_width
sorted-few who ps s f =
    rw (length-range max_width 0) at (pigeonhole ps (range max_width 0) (sorted-distinct who ps s) (λ p m. (range-below max_width p).1 (f p m)))

-- two with the same places are the same
sorted-same : (who : ℕ → ℕ) (ps qs : List ℕ) → Sorted who ps → Sorted who qs → ((x : ℕ) → Memᴰ x ps ↔ Memᴰ x qs) → ps ≡ qs
sorted-same who [] [] s t f = refl
sorted-same who [] (q ∷ qs) s t f = absurd (Memᴰ.not-nil ((f q).1 (Memᴰ.head refl)))
sorted-same who (p ∷ ps) [] s t f = absurd (Memᴰ.not-nil ((f p).0 (Memᴰ.head refl)))
sorted-same who (p ∷ ps) (q ∷ qs) s t f = ap₂ (λ (x : ℕ) (xs : List ℕ). x ∷ xs) same (sorted-same who ps qs s.1 t.1 (λ x. (down x, up x)))
  where
    same : p ≡ q
    same = ⊎_elim (λ e. e) (λ m. ⊎_elim sym (λ n. absurd (omega (arith, s.0 q n, t.0 p m))) (Memᴰ.cases_cons ((f q).1 (Memᴰ.head refl))))
        (Memᴰ.cases_cons ((f p).0 (Memᴰ.head refl)))

    down : (x : ℕ) → Memᴰ x ps → Memᴰ x qs
    down x m =
        ⊎_elim (λ e. absurd (let z : who x ≡ who p = ap who (e ∙ sym same) in omega (arith, s.0 x m))) (λ n. n)
        (Memᴰ.cases_cons ((f x).0 (Memᴰ.tail m)))

    up : (x : ℕ) → Memᴰ x qs → Memᴰ x ps
    up x m =
        ⊎_elim (λ e. absurd (let z : who x ≡ who q = ap who (e ∙ same) in omega (arith, t.0 x m))) (λ n. n)
        (Memᴰ.cases_cons ((f x).1 (Memᴰ.tail m)))

-- ---- arrays

pub row-length : (a : List ℕ) (k : ℕ) → length (row_from a k) ≡ k
unfolding row_from
row-length a zero = refl
row-length a (suc k) = ap suc (row-length a k)

-- a number behind the first k does not matter to them
row_before : (a : List ℕ) (i v k : ℕ) → k ≤ i → row_from (set a i v) k ≡ row_from a k
unfolding row_from
row_before a i v zero l = refl
row_before a i v (suc k) l = ap₂ (λ (x : ℕ) (xs : List ℕ). x ∷ xs) (get_or-set_other a i k v 0 (λ e. omega arith)) (row_before a i v k (omega arith))

row_next : (a : List ℕ) (k v : ℕ) → k < length a → row_from (set a k v) (suc k) ≡ v ∷ row_from a k
unfolding row_from
row_next a k v l = ap₂ (λ (x : ℕ) (xs : List ℕ). x ∷ xs) (get_or-set_same a k v 0 l) (row_before a k v k (omega arith))

-- ---- the highest job of a set, turn by turn

-- `last` has the highest job of the places that are not in `rest`
pub record Leading (who : ℕ → ℕ) (all : List ℕ) (last : ℕ) (rest : List ℕ) : Type 0 where
  pub is-in : Memᴰ last all
  pub inside : (p : ℕ) → Memᴰ p rest → Memᴰ p all
  pub above : (p : ℕ) → Memᴰ p all → Memᴰ p rest ⊎ (who p ≤ who last)

module _ (who : ℕ → ℕ) where
  later-above : (p q : ℕ) → (who p ≤ who (later_of who p q)) × (who q ≤ who (later_of who p q))
  unfolding later_of
  later-above p q = by-choice (λ x. (who p ≤ who x) × (who q ≤ who x)) (ltb (who p) (who q))
      (λ t. let l = (T-ltb (who p) (who q)).0 t in (omega arith, omega arith))
      (λ n. let l : ¬ (who p < who q) = λ z. n ((T-ltb (who p) (who q)).1 z) in (omega arith, omega arith))

  pub leading-start : (i : ℕ) (rest : List ℕ) → Leading who (i ∷ rest) i rest
  leading-start i rest = record {
    is-in = Memᴰ.head refl;
    inside = λ p m. Memᴰ.tail m;
    above = λ p m. ⊎_elim (λ e. inr (let z : who p ≡ who i = ap who e in omega arith)) inl (Memᴰ.cases_cons m);
  }

pub leading-next : {who : ℕ → ℕ} {all : List ℕ} {last : ℕ} (i : ℕ) (rest : List ℕ) → Leading who all last (i ∷ rest)
    → Leading who all (later_of who last i) rest
unfolding later_of
leading-next {who} {all} {last} i rest g = record {
  is-in = by-choice (λ p. Memᴰ p all) (ltb (who last) (who i)) (λ _. g.inside i (Memᴰ.head refl)) (λ _. g.is-in);
  inside = λ p m. g.inside p (Memᴰ.tail m);
  above = λ p m. ⊎_elim (λ r. ⊎_elim (λ e. inr (is-i p e)) inl (Memᴰ.cases_cons r)) (λ l. inr (omega (arith, later-above who last i))) (g.above p m);
}
  where
    is-i : (p : ℕ) → p ≡ i → who p ≤ who (later_of who last i)
    is-i p e = let z : who p ≡ who i = ap who e in omega (arith, later-above who last i)

pub leading_end : {who : ℕ → ℕ} {places : Set} {last : ℕ} → Eight places → Leading who (members places) last [] → Last who places last
leading_end {who} {places} {last} small g = record {
  is_member = ((in_members places last).0 g.is-in).1;
  highest = λ p k. ⊎_elim (λ m. absurd (Memᴰ.not-nil m)) (λ l. l) (g.above p ((in_members places p).1 (omega (arith, small p k), k)));
}

-- ---- the row, turn by turn

-- the array has the places that are not in `rest`, whose jobs are higher than all in it
pub record Listing (who : ℕ → ℕ) (places : Set) (row : List ℕ) (count : ℕ) (rest : Set) : Type 0 where
  pub sorted : Sorted who (row_from row count)
  pub inside : Subset rest places
  pub within : (p : ℕ) → Memᴰ p (row_from row count) → member places p ≡ true
  pub split : (p : ℕ) → member places p ≡ true → Memᴰ p (row_from row count) ⊎ (member rest p ≡ true)
  pub above : (p q : ℕ) → member rest p ≡ true → Memᴰ q (row_from row count) → who p < who q

module _ {who : ℕ → ℕ} {places : Set} (able : Listable who places) where
  pub listing_start : (row : List ℕ) → Listing who places row 0 places
  unfolding row_from
  listing_start row = record {
    sorted = tt;
    inside = subset-refl places;
    within = λ p m. absurd (Memᴰ.not-nil m);
    split = λ p m. inr m;
    above = λ p q m n. absurd (Memᴰ.not-nil n);
  }

  module _ {row : List ℕ} {count : ℕ} {rest : Set} (g : Listing who places row count rest) where
    -- all are below eight
    pub listing-eight : Eight rest
    unfolding Subset
    listing-eight p m = able.eight p (g.inside p m)

    module _ {p : ℕ} (l : Last who rest p) where
      more : Sorted who (p ∷ row_from row count)
      more = (λ q m. g.above p q l.is_member m, g.sorted)

      pub listing-room : count < max_width
      unfolding Subset
      listing-room = rw (row-length row count) at (sorted-few who (p ∷ row_from row count) more
          (λ q m. ⊎_elim (λ e. rw e (listing-eight p l.is_member)) (λ k. able.eight q (g.within q k)) (Memᴰ.cases_cons m)))

      -- with p in front of what the array has
      fronted : (r : List ℕ) (n : ℕ) → row_from r n ≡ p ∷ row_from row count → Listing who places r n (without rest p)
      unfolding Subset
      fronted r n e = record {
        sorted = rw e more;
        inside = λ q m. g.inside q (without-subset rest p q m);
        within = λ q m. ⊎_elim (λ z. rw z (g.inside p l.is_member)) (g.within q) (Memᴰ.cases_cons (rw e at m));
        split = λ q m. rw e (⊎_elim (λ k. inl (Memᴰ.tail k)) (λ k. in_rest q k (ℕ_discrete q p)) (g.split q m));
        above = λ x q m n. ⊎_elim (λ z. let y : who q ≡ who p = ap who z in omega (arith, under x m)) (g.above x q (without-subset rest p x m))
            (Memᴰ.cases_cons (rw e at n));
      }
        where
          in_rest : (q : ℕ) → member rest q ≡ true → Dec (q ≡ p) → Memᴰ q (p ∷ row_from row count) ⊎ (member (without rest p) q ≡ true)
          in_rest q k (yes z) = inl (Memᴰ.head z)
          in_rest q k (no z) = inr (without_other rest p q z ∙ k)

          -- what is left has lower jobs
          under : (x : ℕ) → member (without rest p) x ≡ true → who x < who p
          under x m =
              let k = without-subset rest p x m in
              let same = able.apart x p (g.inside x k) (g.inside p l.is_member) in
              let z : ¬ (who x ≡ who p) = λ y. present (member (without rest p) x) m (rw (same y) (without-same rest p)) in
              omega (arith, l.highest x k)

      pub listing-next : count < length row → Listing who places (set row count p) (count + 1) (without rest p)
      listing-next h = fronted (set row count p) (count + 1) (ap (row_from (set row count p)) (add-one count) ∙ row_next row count p h)

    pub listing-end : count ≤ max_width → members rest ≡ [] → Listed who places row count
    listing-end h e = record {
      few = h;
      row_is = sorted-same who (row_from row count) (by_number who (members places)) g.sorted
          (row-sorted who (members places) (members-distinct places) (λ p q m n. able.apart p q ((in_members places p).0 m).1 ((in_members places q).0 n).1))
          (λ x. (
            λ m. let w = g.within x m in (in_row who (members places) x).1 ((in_members places x).1 (omega (arith, able.eight x w), w)),
            λ m. ⊎_elim (λ k. k) (λ r. absurd (Memᴰ.not-nil (rw e at ((in_members rest x).1 (omega (arith, listing-eight x r), r)))))
                (g.split x ((in_members places x).0 ((in_row who (members places) x).0 m)).1),
          ));
    }
