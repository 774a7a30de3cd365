-- A row of places by rising job number, and the sets that a counter takes of it: the k-th of m places has the bit m - 1 - k, so the
-- greater of two numbers has the lowest job that is in one of the sets alone. Assumes nothing.
-- More of what holds: proofs/Rows.antt.
use Rattle.std.specs.Prelude.{◌≡◌, ◌⊎◌, ◌↔◌, Bool, ◌&&◌, ltb, eqb, length}
use Rattle.std.proofs.Math.Path.{refl, ap}
use Rattle.std.proofs.Common.{sym, ◌∙◌, arith, eqb-true, eq-eqb}
use Rattle.std.proofs.Math.Logic.{inl, inr, ⊎_elim}
use Rattle.std.proofs.Math.Bool.{true, false, and-eq-true_iff}
use Rattle.std.proofs.lemmas.Bool.{false≢true, eqb-false}
use mathlib.Core.List.Memᴰ
use mathlib.Core.List.{List, [], ◌∷◌, map, Memᴰ}
use Prim.Native.Nat.{ℕ, zero, suc, ◌+◌, ◌^◌, ◌<◌}
use Rattle.std.proofs.Math.Decide.{ℕ_discrete, dec_lt}
use Rattle.rules.specs.Basics.{choose, at, filter, Distinct}
use Rattle.laws.specs.Tests.{T-ltb, by-choice}
use Rattle.laws.specs.Lists.{map-mem⁻¹}
use Rattle.jobset.specs.declared.Set.{Set}
use Rattle.jobset.specs.Sets.{member, empty, one, with, union, intersection, is_empty}
use Rattle.jobset.specs.Membership.{member-empty, in_one, in-union, in-intersection}
use Rattle.jobset.specs.Order.{HighestDifference, greater-iff}
use Rattle.dominance.specs.Tries.{Sooner, Ordered}
use Rattle.jobset.specs.Tests.{absent, present}

-- ---- numbers and their bits

-- a set without places from m on has a number below 2 ^ m, and only such a set
pub number-low : (S : Set) (m : ℕ) → ((k : ℕ) → member S k ≡ true → k < m) → S.bits < 2 ^ m
unfolding one
number-low S m a = go (dec_lt S.bits (2 ^ m)) (dec_lt (2 ^ m) S.bits)
  where
    not-m : member S m ≡ true → ⊥
    not-m w = omega (arith, a m w)

    top : (d : HighestDifference S (one m)) → Dec (d.place < m) → ⊥
    top d (yes l) = not-m (d.same_above m l ∙ (in_one m m).1 refl)
    top d (no l) = l (a d.place d.is-in)

    go : Dec (S.bits < 2 ^ m) → Dec (2 ^ m < S.bits) → S.bits < 2 ^ m
    go (yes l) e = l
    go (no l) (yes g) = let d = (greater-iff S (one m)).0 g in absurd (top d (dec_lt d.place m))
    go (no l) (no g) = let q : S.bits ≡ 2 ^ m = omega arith in absurd (not-m (ap (λ (b : ℕ). member (record { bits = b }) m) q ∙ (in_one m m).1 refl))

pub bit-low : (S : Set) (m k : ℕ) → S.bits < 2 ^ m → member S k ≡ true → k < m
unfolding one
bit-low S m k l w = go ((greater-iff (one m) S).0 l) (dec_lt k m) (ℕ_discrete k m)
  where
    go : HighestDifference (one m) S → Dec (k < m) → Dec (k ≡ m) → k < m
    go d (yes q) e = q
    go d (no q) (yes e) =
        let p : d.place ≡ m = (in_one m d.place).0 d.is-in in
        absurd (present (member S k) w (ap (member S) (e ∙ sym p) ∙ d.not_in))
    go d (no q) (no e) =
        let p : d.place ≡ m = (in_one m d.place).0 d.is-in in
        absurd (e ((in_one m k).0 (d.same_above k (omega arith) ∙ w)))

-- a set that is not empty has a member
pub empty-says : (S : Set) → (is_empty S ≡ true) ↔ ((k : ℕ) → member S k ≡ true → ⊥)
unfolding is_empty
empty-says S = (
  λ e k m. present (member S k) m (ap (λ (b : ℕ). member (record { bits = b }) k) (eqb-true S.bits 0 e) ∙ member-empty k),
  λ f. go (is_empty S) refl f,
)
  where
    go : (b : Bool) → is_empty S ≡ b → ((k : ℕ) → member S k ≡ true → ⊥) → b ≡ true
    go true e f = refl
    go false e f = let n : ¬ (S.bits ≡ 0) = eqb-false S.bits 0 e in let d = (greater-iff S empty).0 (omega arith) in absurd (f d.place d.is-in)

-- ---- the row: places one after the other put where they belong

unfoldable pub insert : (ℕ → ℕ) → ℕ → List ℕ → List ℕ
insert who p [] = p ∷ []
insert who p (q ∷ qs) = let rest = insert who p qs in choose (ltb (who p) (who q)) (p ∷ q ∷ qs) (q ∷ rest)

unfoldable pub sort_into : (ℕ → ℕ) → List ℕ → List ℕ → List ℕ
sort_into who row [] = row
sort_into who row (p ∷ ps) = sort_into who (insert who p row) ps

unfoldable pub by_number : (ℕ → ℕ) → List ℕ → List ℕ
by_number who ps = sort_into who [] ps

-- the job numbers rise
abbrev pub Sorted : (ℕ → ℕ) → List ℕ → Type 0
Sorted who [] = Unit {0}
Sorted who (p ∷ ps) = ((q : ℕ) → Memᴰ q ps → who p < who q) × Sorted who ps

module _ (who : ℕ → ℕ) where
  in_insert : (p : ℕ) (row : List ℕ) (q : ℕ) → Memᴰ q (insert who p row) ↔ ((q ≡ p) ⊎ Memᴰ q row)
  unfolding insert
  in_insert p [] q = (λ m. Memᴰ.cases_cons m, λ o. ⊎_elim (λ e. Memᴰ.head e) (λ m. absurd (Memᴰ.not-nil m)) o)
  in_insert p (x ∷ row) q = go (in_insert p row q)
    where
      go : Memᴰ q (insert who p row) ↔ ((q ≡ p) ⊎ Memᴰ q row) → Memᴰ q (choose (ltb (who p) (who x)) (p ∷ x ∷ row) (x ∷ insert who p row))
          ↔ ((q ≡ p) ⊎ Memᴰ q (x ∷ row))
      go r = by-choice (λ l. Memᴰ q l ↔ ((q ≡ p) ⊎ Memᴰ q (x ∷ row))) (ltb (who p) (who x))
          (λ t. (λ m. Memᴰ.cases_cons m, λ o. ⊎_elim (λ e. Memᴰ.head e) (λ m. Memᴰ.tail m) o))
          (λ n. (
            λ m. ⊎_elim (λ e. inr (Memᴰ.head e)) (λ k. ⊎_elim inl (λ w. inr (Memᴰ.tail w)) (r.0 k)) (Memᴰ.cases_cons m),
            λ o. ⊎_elim (λ e. Memᴰ.tail (r.1 (inl e))) (λ m. ⊎_elim (λ e. Memᴰ.head e) (λ w. Memᴰ.tail (r.1 (inr w))) (Memᴰ.cases_cons m))
                o,
          ))

  insert-sorted : (p : ℕ) (row : List ℕ) → Sorted who row → ((q : ℕ) → Memᴰ q row → who q ≡ who p → ⊥) → Sorted who (insert who p row)
  unfolding insert
  insert-sorted p [] s f = (λ q m. absurd (Memᴰ.not-nil m), tt)
  insert-sorted p (x ∷ row) s f = go (insert-sorted p row s.1 (λ q m. f q (Memᴰ.tail m)))
    where
      go : Sorted who (insert who p row) → Sorted who (choose (ltb (who p) (who x)) (p ∷ x ∷ row) (x ∷ insert who p row))
      go r = by-choice (Sorted who) (ltb (who p) (who x))
          (λ t. let l = (T-ltb (who p) (who x)).0 t in (λ q m. ⊎_elim (λ e. rw e l) (λ k. omega (arith, s.0 q k)) (Memᴰ.cases_cons m), s))
          (λ n. let l : ¬ (who p < who x) = λ q. n ((T-ltb (who p) (who x)).1 q) in let e : ¬ (who x ≡ who p) = f x (Memᴰ.head refl) in
          (λ q m. ⊎_elim (λ k. let z : who q ≡ who p = ap who k in omega arith) (λ k. s.0 q k) ((in_insert p row q).0 m), r))

  in-into : (ps row : List ℕ) (q : ℕ) → Memᴰ q (sort_into who row ps) ↔ (Memᴰ q row ⊎ Memᴰ q ps)
  unfolding sort_into
  in-into [] row q = (inl, λ o. ⊎_elim (λ m. m) (λ m. absurd (Memᴰ.not-nil m)) o)
  in-into (p ∷ ps) row q = let r = in-into ps (insert who p row) q in let i = in_insert p row q in (
    λ m. ⊎_elim (λ a. ⊎_elim (λ e. inr (Memᴰ.head e)) inl (i.0 a)) (λ a. inr (Memᴰ.tail a)) (r.0 m),
    λ o. r.1 (⊎_elim (λ a. inl (i.1 (inr a))) (λ a. ⊎_elim (λ e. inl (i.1 (inl e))) inr (Memᴰ.cases_cons a)) o),
  )

  into-sorted : (In : ℕ → Type 0) → ((p q : ℕ) → In p → In q → who p ≡ who q → p ≡ q) → (ps row : List ℕ) → ((p : ℕ) → Memᴰ p ps → In p)
      → ((p : ℕ) → Memᴰ p row → In p)
      → Distinct ps → ((p : ℕ) → Memᴰ p ps → Memᴰ p row → ⊥) → Sorted who row → Sorted who (sort_into who row ps)
  unfolding sort_into
  into-sorted In inj [] row a b d x s = s
  into-sorted In inj (p ∷ ps) row a b d x s = into-sorted In inj ps (insert who p row) (λ q m. a q (Memᴰ.tail m))
      (λ q m. ⊎_elim (λ e. rw e (a p (Memᴰ.head refl))) (b q) ((in_insert p row q).0 m)) d.1
      (λ q m k. ⊎_elim (λ e. d.0 (rw e at m)) (λ w. x q (Memᴰ.tail m) w) ((in_insert p row q).0 k))
      (insert-sorted p row s (λ q m e. x p (Memᴰ.head refl) (rw (inj q p (b q m) (a p (Memᴰ.head refl)) e) at m)))

  insert-distinct : (p : ℕ) (row : List ℕ) → Distinct row → ¬ (Memᴰ p row) → Distinct (insert who p row)
  unfolding insert
  insert-distinct p [] d n = (λ m. Memᴰ.not-nil m, tt)
  insert-distinct p (x ∷ row) d n = go (insert-distinct p row d.1 (λ m. n (Memᴰ.tail m)))
    where
      go : Distinct (insert who p row) → Distinct (choose (ltb (who p) (who x)) (p ∷ x ∷ row) (x ∷ insert who p row))
      go r = by-choice Distinct (ltb (who p) (who x)) (λ t. (n, d)) (λ t. (λ m. ⊎_elim (λ e. n (Memᴰ.head (sym e))) d.0 ((in_insert p row x).0 m), r))

  into-distinct : (ps row : List ℕ) → Distinct ps → Distinct row → ((p : ℕ) → Memᴰ p ps → Memᴰ p row → ⊥) → Distinct (sort_into who row ps)
  unfolding sort_into
  into-distinct [] row a b f = b
  into-distinct (p ∷ ps) row a b f = into-distinct ps (insert who p row) a.1 (insert-distinct p row b (f p (Memᴰ.head refl)))
      (λ q m k. ⊎_elim (λ e. a.0 (rw e at m)) (f q (Memᴰ.tail m)) ((in_insert p row q).0 k))

  pub row-distinct : (ps : List ℕ) → Distinct ps → Distinct (by_number who ps)
  unfolding by_number
  row-distinct ps d = into-distinct ps [] d tt (λ p m k. Memᴰ.not-nil k)

  -- the row has just the places given, and by number
  pub in_row : (ps : List ℕ) (q : ℕ) → Memᴰ q (by_number who ps) ↔ Memᴰ q ps
  unfolding by_number
  in_row ps q = let r = in-into ps [] q in (λ m. ⊎_elim (λ a. absurd (Memᴰ.not-nil a)) (λ a. a) (r.0 m), λ m. r.1 (inr m))

  pub row-sorted : (ps : List ℕ) → Distinct ps → ((p q : ℕ) → Memᴰ p ps → Memᴰ q ps → who p ≡ who q → p ≡ q) → Sorted who (by_number who ps)
  unfolding by_number
  row-sorted ps d inj = into-sorted (λ p. Memᴰ p ps) inj ps [] (λ p m. m) (λ p m. absurd (Memᴰ.not-nil m)) d (λ p m k. Memᴰ.not-nil k) tt

  -- a later place has a higher job
  pub at-sorted : (row : List ℕ) → Sorted who row → (j k : ℕ) → j < k → k < length row → who (at row j) < who (at row k)
  at-sorted [] s j k h l = absurd (omega arith)
  at-sorted (p ∷ row) s zero zero h l = absurd (omega arith)
  at-sorted (p ∷ row) s zero (suc k) h l = s.0 (at row k) (nth_in row k (omega arith))
    where
      nth_in : (row : List ℕ) (k : ℕ) → k < length row → Memᴰ (at row k) row
      nth_in [] k l = absurd (omega arith)
      nth_in (x ∷ row) zero l = Memᴰ.head refl
      nth_in (x ∷ row) (suc k) l = Memᴰ.tail (nth_in row k (omega arith))
  at-sorted (p ∷ row) s (suc j) zero h l = absurd (omega arith)
  at-sorted (p ∷ row) s (suc j) (suc k) h l = at-sorted row s.1 j k (omega arith) (omega arith)

-- ---- the places of a number

unfoldable pub chosen : List ℕ → Set → List ℕ
chosen [] x = []
chosen (p ∷ row) x = let rest = chosen row x in choose (member x (length row)) (p ∷ rest) rest

-- p stands in the row at a rank whose bit is in x
pub record Pick (row : List ℕ) (x : Set) (p : ℕ) : Type 0 where
  pub rank : ℕ
  pub bit : ℕ
  pub sum : suc (bit + rank) ≡ length row
  pub place : at row rank ≡ p
  pub is-in : member x bit ≡ true

pub in-chosen : (row : List ℕ) (x : Set) (p : ℕ) → Memᴰ p (chosen row x) ↔ Pick row x p
unfolding chosen choose
in-chosen [] x p = (λ m. absurd (Memᴰ.not-nil m), λ k. absurd (omega (arith, k.sum)))
in-chosen (q ∷ row) x p = go (member x (length row)) refl (in-chosen row x p)
  where
    later : Pick row x p → Pick (q ∷ row) x p
    later k = record { rank = suc k.rank; bit = k.bit; sum = omega (arith, k.sum); place = k.place; is-in = k.is-in }

    first : member x (length row) ≡ true → p ≡ q → Pick (q ∷ row) x p
    first e k = record { rank = 0; bit = length row; sum = omega arith; place = sym k; is-in = e }

    back : (r b : ℕ) → suc (b + r) ≡ suc (length row) → at (q ∷ row) r ≡ p → member x b ≡ true → ((p ≡ q) × (member x (length row) ≡ true)) ⊎ Pick row x p
    back zero b s e m = let z : b ≡ length row = omega arith in inl (sym e, rw z at m)
    back (suc r) b s e m = inr record { rank = r; bit = b; sum = omega arith; place = e; is-in = m }

    go : (b : Bool) → member x (length row) ≡ b → Memᴰ p (chosen row x) ↔ Pick row x p → Memᴰ p (choose b (q ∷ chosen row x) (chosen row x))
        ↔ Pick (q ∷ row) x p
    go true e r = (
      λ m. ⊎_elim (first e) (λ k. later (r.0 k)) (Memᴰ.cases_cons m),
      λ k. ⊎_elim (λ w. Memᴰ.head w.0) (λ w. Memᴰ.tail (r.1 w)) (back k.rank k.bit k.sum k.place k.is-in),
    )
    go false e r = (
      λ m. later (r.0 m),
      λ k. ⊎_elim (λ w. absurd (present (member x (length row)) w.1 e)) (λ w. r.1 w) (back k.rank k.bit k.sum k.place k.is-in),
    )

pub chosen-in : (row : List ℕ) (x : Set) (p : ℕ) → Memᴰ p (chosen row x) → Memᴰ p row
unfolding chosen choose
chosen-in [] x p m = m
chosen-in (q ∷ row) x p m = go (member x (length row)) m (chosen-in row x p)
  where
    go : (b : Bool) → Memᴰ p (choose b (q ∷ chosen row x) (chosen row x)) → (Memᴰ p (chosen row x) → Memᴰ p row) → Memᴰ p (q ∷ row)
    go true m r = ⊎_elim (λ e. Memᴰ.head e) (λ k. Memᴰ.tail (r k)) (Memᴰ.cases_cons m)
    go false m r = Memᴰ.tail (r m)

pub chosen-distinct : (row : List ℕ) (x : Set) → Distinct row → Distinct (chosen row x)
unfolding chosen choose
chosen-distinct [] x d = tt
chosen-distinct (q ∷ row) x d = go (member x (length row)) (chosen-distinct row x d.1)
  where
    go : (b : Bool) → Distinct (chosen row x) → Distinct (choose b (q ∷ chosen row x) (chosen row x))
    go true r = (λ m. d.0 (chosen-in row x q m), r)
    go false r = r

-- only the bits of the row matter
chosen-same : (row : List ℕ) (x y : Set) → ((k : ℕ) → k < length row → member x k ≡ member y k) → chosen row x ≡ chosen row y
unfolding chosen
chosen-same [] x y f = refl
chosen-same (q ∷ row) x y f = rw (f (length row) (omega arith), chosen-same row x y (λ k l. f k (omega arith))) refl

-- the number of the places that pass a test
unfoldable pub number_for : (ℕ → Bool) → List ℕ → Set
number_for t [] = empty
number_for t (p ∷ row) = let rest = number_for t row in choose (t p) (with rest (length row)) rest

number-for-low : (t : ℕ → Bool) (row : List ℕ) (k : ℕ) → member (number_for t row) k ≡ true → k < length row
unfolding number_for with
number-for-low t [] k m = absurd (present (member empty k) m (member-empty k))
number-for-low t (p ∷ row) k m = go (number-for-low t row k) m
  where
    go : (member (number_for t row) k ≡ true → k < length row) → member (choose (t p) (union (number_for t row) (one (length row))) (number_for t row)) k ≡ true
        → k < suc (length row)
    go r = by-choice (λ S. member S k ≡ true → k < suc (length row)) (t p)
        (λ u m. ⊎_elim (λ a. omega (arith, r a)) (λ e. omega (arith, (in_one (length row) k).0 e)) ((in-union (number_for t row) (one (length row)) k).0 m))
        (λ u m. omega (arith, r m))

pub number-for-lt : (t : ℕ → Bool) (row : List ℕ) → (number_for t row).bits < 2 ^ length row
number-for-lt t row = number-low (number_for t row) (length row) (number-for-low t row)

pub chosen-number : (t : ℕ → Bool) (row : List ℕ) → chosen row (number_for t row) ≡ filter t row
unfolding chosen number_for with filter choose
chosen-number t [] = refl
chosen-number t (p ∷ row) = go (t p) refl (chosen-number t row)
  where
    high : member (union (number_for t row) (one (length row))) (length row) ≡ true
    high = (in-union (number_for t row) (one (length row)) (length row)).1 (inr ((in_one (length row) (length row)).1 refl))

    low : member (number_for t row) (length row) ≡ false
    low = absent (member (number_for t row) (length row)) (λ m. omega (arith, number-for-low t row (length row) m))

    same : (k : ℕ) → k < length row → member (union (number_for t row) (one (length row))) k ≡ member (number_for t row) k
    same k l = ext (member (union (number_for t row) (one (length row))) k) (member (number_for t row) k)
        (λ m. ⊎_elim (λ a. a) (λ e. absurd (omega (arith, (in_one (length row) k).0 e))) ((in-union (number_for t row) (one (length row)) k).0 m))
        (λ m. (in-union (number_for t row) (one (length row)) k).1 (inl m))
      where
        ext : (a b : Bool) → (a ≡ true → b ≡ true) → (b ≡ true → a ≡ true) → a ≡ b
        ext true b f g = sym (f refl)
        ext false true f g = g refl
        ext false false f g = refl

    go : (b : Bool) → t p ≡ b → chosen row (number_for t row) ≡ filter t row
        → choose (member (choose b (union (number_for t row) (one (length row))) (number_for t row)) (length row))
        (p ∷ chosen row (choose b (union (number_for t row) (one (length row))) (number_for t row)))
        (chosen row (choose b (union (number_for t row) (one (length row))) (number_for t row)))
        ≡ choose b (p ∷ filter t row) (filter t row)
    go true e r = rw (high, chosen-same row (union (number_for t row) (one (length row))) (number_for t row) same, r) refl
    go false e r = rw (low, r) refl

-- ---- a list of places as a set

unfoldable pub places_of : List ℕ → Set
places_of [] = empty
places_of (p ∷ ps) = with (places_of ps) p

pub in-places : (ps : List ℕ) (p : ℕ) → (member (places_of ps) p ≡ true) ↔ Memᴰ p ps
unfolding places_of with
in-places [] p = (λ m. absurd (present (member empty p) m (member-empty p)), λ m. absurd (Memᴰ.not-nil m))
in-places (q ∷ ps) p = let r = in-places ps p in let u = in-union (places_of ps) (one q) p in (
  λ m. ⊎_elim (λ a. Memᴰ.tail (r.0 a)) (λ e. Memᴰ.head ((in_one q p).0 e)) (u.0 m),
  λ m. u.1 (⊎_elim (λ e. inr ((in_one q p).1 e)) (λ k. inl (r.1 k)) (Memᴰ.cases_cons m)),
)

-- ---- at most one place for each that ties

-- none of the places has a near one that is used already, by those before it too
unfoldable pub fitting : (ℕ → Set) → Set → List ℕ → Bool
fitting near used [] = true
fitting near used (p ∷ ps) = is_empty (intersection used (near p)) && fitting near (union used (near p)) ps

-- no two of the places share a near one
abbrev pub Loose : (ℕ → Set) → List ℕ → Type 0
Loose near ps = (p q k : ℕ) → Memᴰ p ps → Memᴰ q ps → member (near p) k ≡ true → member (near q) k ≡ true → p ≡ q

pub fitting-says : (near : ℕ → Set) (ps : List ℕ) (used : Set) → Distinct ps
    → (fitting near used ps ≡ true) ↔ (((p k : ℕ) → Memᴰ p ps → member used k ≡ true → member (near p) k ≡ true → ⊥) × Loose near ps)
unfolding fitting
fitting-says near [] used d = (λ e. (λ p k m. absurd (Memᴰ.not-nil m), λ p q k m. absurd (Memᴰ.not-nil m)), λ w. refl)
fitting-says near (x ∷ ps) used d = go (fitting-says near ps (union used (near x)) d.1)
    (and-eq-true_iff (is_empty (intersection used (near x))) (fitting near (union used (near x)) ps)) (empty-says (intersection used (near x)))
  where
    Out : Set → List ℕ → Type 0
    Out U qs = (p k : ℕ) → Memᴰ p qs → member U k ≡ true → member (near p) k ≡ true → ⊥

    go : (fitting near (union used (near x)) ps ≡ true)
        ↔ (((p k : ℕ) → Memᴰ p ps → member (union used (near x)) k ≡ true → member (near p) k ≡ true → ⊥) × Loose near ps)
        → ((is_empty (intersection used (near x)) && fitting near (union used (near x)) ps) ≡ true)
        ↔ ((is_empty (intersection used (near x)) ≡ true) × (fitting near (union used (near x)) ps ≡ true))
        → (is_empty (intersection used (near x)) ≡ true) ↔ ((k : ℕ) → member (intersection used (near x)) k ≡ true → ⊥)
        → ((is_empty (intersection used (near x)) && fitting near (union used (near x)) ps) ≡ true)
        ↔ (((p k : ℕ) → Memᴰ p (x ∷ ps) → member used k ≡ true → member (near p) k ≡ true → ⊥) × Loose near (x ∷ ps))
    go r a e = (
      λ h. let w = a.0 h in let v = r.0 w.1 in (
        λ p k m u n. ⊎_elim (λ q. e.0 w.0 k ((in-intersection used (near x) k).1 (u, rw q at n))) (λ q. v.0 p k q ((in-union used (near x) k).1 (inl u)) n)
            (Memᴰ.cases_cons m),
        λ p q k m l n o. two v p q k (Memᴰ.cases_cons m) (Memᴰ.cases_cons l) n o,
      ),
      λ w. a.1 (
        e.1 (λ k m. let z = (in-intersection used (near x) k).0 m in w.0 x k (Memᴰ.head refl) z.0 z.1),
        r.1 (
          λ p k m u n. ⊎_elim (λ y. w.0 p k (Memᴰ.tail m) y n) (λ y. d.0 (rw (w.1 p x k (Memᴰ.tail m) (Memᴰ.head refl) n y) at m))
              ((in-union used (near x) k).0 u),
          λ p q k m l. w.1 p q k (Memᴰ.tail m) (Memᴰ.tail l),
        ),
      ),
    )
      where
        two : (((p k : ℕ) → Memᴰ p ps → member (union used (near x)) k ≡ true → member (near p) k ≡ true → ⊥) × Loose near ps) → (p q k : ℕ)
            → (p ≡ x) ⊎ Memᴰ p ps → (q ≡ x) ⊎ Memᴰ q ps → member (near p) k ≡ true → member (near q) k ≡ true → p ≡ q
        two v p q k (inl a) (inl b) n o = a ∙ sym b
        two v p q k (inl a) (inr b) n o = absurd (v.0 q k b ((in-union used (near x) k).1 (inr (rw a at n))) o)
        two v p q k (inr a) (inl b) n o = absurd (v.0 p k a ((in-union used (near x) k).1 (inr (rw b at o))) n)
        two v p q k (inr a) (inr b) n o = v.1 p q k a b n o

-- from nothing used
pub fitting-loose : (near : ℕ → Set) (ps : List ℕ) → Distinct ps → (fitting near empty ps ≡ true) ↔ Loose near ps
fitting-loose near ps d = let w = fitting-says near ps empty d in
    (λ e. (w.0 e).1, λ l. w.1 (λ p k m u. absurd (present (member empty k) u (member-empty k)), l))

-- ---- the sets tried

-- exactly so many places, at most one for each that ties
unfoldable pub is_try : (ℕ → Set) → ℕ → List ℕ → Bool
is_try near most ps = eqb (length ps) most && fitting near empty ps

pub is-try : (near : ℕ → Set) (most : ℕ) (ps : List ℕ) → Distinct ps → (is_try near most ps ≡ true) ↔ ((length ps ≡ most) × Loose near ps)
unfolding is_try
is-try near most ps d = let a = and-eq-true_iff (eqb (length ps) most) (fitting near empty ps) in (
  λ e. let w = a.0 e in (eqb-true (length ps) most w.0, (fitting-loose near ps d).0 w.1),
  λ w. a.1 (eq-eqb (length ps) most w.0, (fitting-loose near ps d).1 w.1),
)

-- the places of the row that number b takes
abbrev pub picks : List ℕ → ℕ → List ℕ
picks row b = chosen row (record { bits = b })

-- for each number below b, from the highest down
unfoldable pub tried_below : (ℕ → Set) → List ℕ → ℕ → ℕ → List Set
tried_below near row most zero = []
tried_below near row most (suc b) =
    let rest = tried_below near row most b in
    choose (is_try near most (picks row b)) (places_of (picks row b) ∷ rest) rest

-- S is the set of an allowed number below b
pub record Number (near : ℕ → Set) (row : List ℕ) (most b : ℕ) (S : Set) : Type 0 where
  pub number : ℕ
  pub low : number < b
  pub is-allowed : is_try near most (picks row number) ≡ true
  pub set_is : S ≡ places_of (picks row number)

module _ (near : ℕ → Set) (row : List ℕ) (most : ℕ) where
  pub tried-number : (b : ℕ) (S : Set) → Memᴰ S (tried_below near row most b) → Number near row most b S
  unfolding tried_below choose
  tried-number zero S w = absurd (Memᴰ.not-nil w)
  tried-number (suc b) S w = go (is_try near most (picks row b)) refl w (tried-number b S)
    where
      more : Number near row most b S → Number near row most (suc b) S
      more r = record { number = r.number; low = omega (arith, r.low); is-allowed = r.is-allowed; set_is = r.set_is }

      go : (a : Bool) → is_try near most (picks row b) ≡ a
          → Memᴰ S (choose a (places_of (picks row b) ∷ tried_below near row most b) (tried_below near row most b))
          → (Memᴰ S (tried_below near row most b) → Number near row most b S) → Number near row most (suc b) S
      go true e w r = ⊎_elim (λ q. record { number = b; low = omega arith; is-allowed = e; set_is = q }) (λ k. more (r k)) (Memᴰ.cases_cons w)
      go false e w r = more (r w)

  pub number-tried : (b m : ℕ) → m < b → is_try near most (picks row m) ≡ true → Memᴰ (places_of (picks row m)) (tried_below near row most b)
  unfolding tried_below choose
  number-tried zero m l e = absurd (omega arith)
  number-tried (suc b) m l e = go (is_try near most (picks row b)) refl (ℕ_discrete m b) (λ k. number-tried b m k e)
    where
      go : (a : Bool) → is_try near most (picks row b) ≡ a → Dec (m ≡ b) → (m < b → Memᴰ (places_of (picks row m)) (tried_below near row most b))
          → Memᴰ (places_of (picks row m)) (choose a (places_of (picks row b) ∷ tried_below near row most b) (tried_below near row most b))
      go true f (yes q) r = Memᴰ.head (ap (λ (k : ℕ). places_of (picks row k)) q)
      go true f (no q) r = Memᴰ.tail (r (omega arith))
      go false f (yes q) r = absurd (false≢true (sym f ∙ ap (λ (k : ℕ). is_try near most (picks row k)) (sym q) ∙ e))
      go false f (no q) r = r (omega arith)

  -- they are ordered, if of two allowed numbers the greater one is preferred
  pub tried-ordered : (f : Set → List ℕ) (b : ℕ)
      → ((m k : ℕ) → k < m → m < b → is_try near most (picks row m) ≡ true → is_try near most (picks row k) ≡ true
      → Sooner (f (places_of (picks row m))) (f (places_of (picks row k))))
      → Ordered (map f (tried_below near row most b))
  unfolding tried_below choose
  tried-ordered f zero h = tt
  tried-ordered f (suc b) h = go (is_try near most (picks row b)) refl (tried-ordered f b (λ m k l u. h m k l (omega arith)))
    where
      go : (a : Bool) → is_try near most (picks row b) ≡ a → Ordered (map f (tried_below near row most b))
          → Ordered (map f (choose a (places_of (picks row b) ∷ tried_below near row most b) (tried_below near row most b)))
      go true e r = (
        map-mem⁻¹ (λ R. Sooner (f (places_of (picks row b))) R) f (tried_below near row most b) (λ S w. let k = tried-number b S w in
            rw k.set_is (h b k.number k.low (omega arith) e k.is-allowed)),
        r,
      )
      go false e r = r
