-- A plan read back as starts: its sets are of places of their slots, one for each slot, and an array by job number that the sets are
-- written into, place by place, has the start list of the plan. Assumes nothing.
use Rattle.std.specs.Prelude.{◌≡◌, ◌⊎◌, ◌↔◌, true, length, replicate}
use Rattle.std.proofs.Math.Path.{refl}
use Rattle.std.proofs.Common.{sym, ap, ◌∙◌, inl, ext_get_or}
use Rattle.std.proofs.Math.Logic.{inr}
use Rattle.std.proofs.lemmas.Bool.{false≢true}
use mathlib.Core.List.{List, [], ◌∷◌, map, Memᴰ}
use Prim.Native.Nat.{ℕ, zero, suc, ◌+◌, ◌≤◌, ◌<◌}
use native.Mathlib.Omega.{arith}
use Rattle.std.proofs.Math.Decide.{dec_lt}
use Rattle.std.proofs.lemmas.List.{length-replicate, get_or-replicate}
use Rattle.std.proofs.Math.ListN.{get_or-eq_default}
use Rattle.rules.specs.Basics.{at, tabulate}
use Rattle.rules.specs.Program.{Fits}
use Rattle.laws.specs.Tests.{T_true, by-choice}
use Rattle.laws.specs.Lists.{map-mem, map-mem⁻¹, dec_mem, zeros-at, tabulate-at, length-tabulate}
use Rattle.jobset.specs.declared.Set.{Set}
use Rattle.jobset.specs.Sets.{member, empty, members, set_at, is_subset, Subset}
use Rattle.jobset.specs.Members.{in_members}
use Rattle.dominance.specs.Placing.{place, length-place, place_out, place_in}
use Rattle.places.specs.Seats.{OfPlaces, jobs_of, in-jobs}
use Rattle.places.specs.Windows.{Windows, held, in_held, Seats}
use Rattle.places.specs.Tables.{Tables, Shows}
use Rattle.places.specs.Slot.{tries_at}
use Rattle.places.proofs.Slot.{tries-held}
use Rattle.places.specs.Model.{Plan, no_plan, slot_then, try_all, done_after, find, placed}

-- the plan of C slots with at most `cap` jobs a slot
abbrev pub plan_of : Tables → ℕ → ℕ → Plan
plan_of A cap C = find A (tries_at A cap) C 0 empty empty

-- ---- the sets of a plan

-- a plan of k slots from slot s on: as many sets where there is one, no more in any case, each of places of its slot
pub record Proper (W : Windows) (π : ℕ → ℕ) (s k : ℕ) (plan : Plan) : Type 0 where
  pub full : plan.ok ≡ true → length plan.sets ≡ k
  pub short : length plan.sets ≤ k
  pub of_places : (j : ℕ) → j < length plan.sets → OfPlaces π (held W (s + j)) (set_at plan.sets j)

module _ (W : Windows) (π : ℕ → ℕ) (s k : ℕ) where
  none-proper : Proper W π s k no_plan
  none-proper = record { full = λ e. absurd (false≢true e); short = omega arith; of_places = λ j l. absurd (omega arith) }

  one_more : (S : Set) (plan : Plan) → plan.ok ≡ true → OfPlaces π (held W s) S → Proper W π (suc s) k plan → Proper W π s (suc k) (slot_then S plan)
  unfolding slot_then
  one_more S plan o b r = record { full = λ e. omega (arith, r.full o); short = omega (arith, r.short); of_places = each }
    where
      each : (j : ℕ) → j < suc (length plan.sets) → OfPlaces π (held W (s + j)) (set_at (S.bits ∷ plan.sets) j)
      each zero l = let e : s + 0 ≡ s = omega arith in rw e b
      each (suc j) l = let e : s + suc j ≡ suc s + j = omega arith in rw e (r.of_places j (omega arith))

all-proper : (W : Windows) (π : ℕ → ℕ) (s k : ℕ) (go : Set → Plan) (Ss : List Set)
    → ((S : Set) → Memᴰ S Ss → OfPlaces π (held W s) S × Proper W π (suc s) k (go S)) → Proper W π s (suc k) (try_all go Ss)
unfolding try_all
all-proper W π s k go [] h = none-proper W π s (suc k)
all-proper W π s k go (S ∷ Ss) h =
    let w = h S (mathlib.Core.List.Memᴰ.head refl) in
    by-choice (Proper W π s (suc k)) (go S).ok (λ o. one_more W π s k S (go S) ((T_true (go S).ok).0 o) w.0 w.1)
    (λ o. all-proper W π s k go Ss (λ R m. h R (mathlib.Core.List.Memᴰ.tail m)))

module _ (W : Windows) (Z : Seats W) (C : ℕ) (A : Tables) (sh : Shows W Z C A) (cap : ℕ) where
  -- each set tried is of places of its slot
  pub tries-places : (s : ℕ) → s < C → (done ran S : Set) → Memᴰ S (tries_at A cap s done ran) → OfPlaces Z.place (held W s) S
  unfolding Subset
  tries-places s h done ran S w p m = (sh.held-is s h).bound p (tries-held A cap s done ran S w p m)

  find-proper : (k s : ℕ) → k + s ≤ C → (done ran : Set) → Proper W Z.place s k (find A (tries_at A cap) k s done ran)
  unfolding find
  find-proper zero s h done ran =
      by-choice (Proper W Z.place s 0) (is_subset (A.due s) done)
      (λ e. record { full = λ o. refl; short = omega arith; of_places = λ j l. absurd (omega arith) }) (λ e. none-proper W Z.place s 0)
  find-proper (suc k) s h done ran =
      by-choice (Proper W Z.place s (suc k)) (is_subset (A.due s) done)
      (λ l. all-proper W Z.place s k (λ S. find A (tries_at A cap) k (suc s) (done_after A s done S) S) (tries_at A cap s done ran)
      (λ S m. (tries-places s (omega arith) done ran S m, find-proper k (suc s) (omega arith) (done_after A s done S) S)))
      (λ l. none-proper W Z.place s (suc k))

  -- so is the plan of C slots
  pub plan-proper : Proper W Z.place 0 C (plan_of A cap C)
  plan-proper = find-proper C 0 (omega arith) empty empty

-- ---- the order in which a slot's jobs are written does not matter

place_same : (s : ℕ) (S R t : List ℕ) → ((i : ℕ) → Memᴰ i S ↔ Memᴰ i R) → place s S t ≡ place s R t
place_same s S R t f =
    ext_get_or 0 (place s S t) (place s R t) (length-place s S t ∙ sym (length-place s R t)) (λ i l. go i (omega (arith, length-place s S t)) (dec_mem i S))
  where
    go : (i : ℕ) → i < length t → Dec (Memᴰ i S) → at (place s S t) i ≡ at (place s R t) i
    go i l (yes m) = place_in s S t i l m ∙ sym (place_in s R t i l ((f i).0 m))
    go i l (no n) = place_out s S t i n ∙ sym (place_out s R t i (λ m. n ((f i).1 m)))

-- the jobs of a set as a loop over its members meets them: places rising
unfoldable pub jobs_up : (ℕ → ℕ) → Set → List ℕ
jobs_up who S = map who (members S)

jobs-up : (π : ℕ → ℕ) (H : List ℕ) (who : ℕ → ℕ) (S : Set) → ((i : ℕ) → Memᴰ i H → (π i < 64) × (who (π i) ≡ i)) → OfPlaces π H S
    → (i : ℕ) → Memᴰ i (jobs_up who S) ↔ Memᴰ i (jobs_of π H S)
unfolding jobs_up
jobs-up π H who S f b i = (
  λ m. map-mem⁻¹ (λ j. Memᴰ j (jobs_of π H S)) who (members S) (λ p w.
      let r = (in_members S p).0 w in
      let l = b p r.1 in
      let e : who p ≡ l.0 = ap who (sym l.2) ∙ (f l.0 l.1).1 in
      rw e ((in-jobs π H S l.0).1 (l.1, ap (member S) l.2 ∙ r.1))) i m,
  λ m.
      let z = (in-jobs π H S i).0 m in
      let k : Memᴰ (who (π i)) (map who (members S)) = map-mem who (members S) (π i) ((in_members S (π i)).1 ((f i z.0).0, z.1)) in
      rw (f i z.0).1 at k,
)

-- so the sets of a plan may be written so
unfoldable pub written : Tables → ℕ → List ℕ → List ℕ → List ℕ
written A s [] t = t
written A s (x ∷ xs) t = written A (suc s) xs (place s (jobs_up (A.who s) (record { bits = x })) t)

pub written_is : (W : Windows) (Z : Seats W) (C : ℕ) (A : Tables) → Shows W Z C A → (sets : List ℕ) (s : ℕ) → length sets + s ≤ C
    → ((j : ℕ) → j < length sets → OfPlaces Z.place (held W (s + j)) (set_at sets j)) → (t : List ℕ) → written A s sets t ≡ placed W Z.place s sets t
unfolding written placed
written_is W Z C A sh [] s l h t = refl
written_is W Z C A sh (x ∷ sets) s l h t =
    let e : s + 0 ≡ s = omega arith in
    let w = rw e at (h 0 (omega arith)) in
    written_is W Z C A sh sets (suc s) (omega arith) (λ j k. let q : suc s + j ≡ s + suc j = omega arith in rw q (h (suc j) (omega arith))) _
    ∙ ap (placed W Z.place (suc s) sets) (place_same s _ _ t
    (jobs-up Z.place (held W s) (A.who s) (record { bits = x }) (λ i m. (omega (arith, Z.low s i m), sh.who-is s i (omega arith) m)) w))

-- ---- the starts in a longer array that held zeros

module _ (W : Windows) (π : ℕ → ℕ) where
  length-placed : (sets : List ℕ) (s : ℕ) (t : List ℕ) → length (placed W π s sets t) ≡ length t
  unfolding placed
  length-placed [] s t = refl
  length-placed (x ∷ sets) s t = length-placed sets (suc s) _ ∙ length-place s _ t

  -- a start is written into both, or into neither
  abbrev Both : List ℕ → List ℕ → List ℕ → List ℕ → ℕ → Type 0
  Both t u t' u' i = (at t' i ≡ at u' i) ⊎ ((at t' i ≡ at t i) × (at u' i ≡ at u i))

  placed-both : (sets : List ℕ) (s : ℕ) (t u : List ℕ) (i : ℕ) → i < length t → i < length u → Both t u (placed W π s sets t) (placed W π s sets u) i
  unfolding placed
  placed-both [] s t u i a b = inr (refl, refl)
  placed-both (x ∷ sets) s t u i a b =
      go (dec_mem i S) (placed-both sets (suc s) (place s S t) (place s S u) i (omega (arith, length-place s S t)) (omega (arith, length-place s S u)))
    where
      S : List ℕ
      S = jobs_of π (held W s) (record { bits = x })

      go : Dec (Memᴰ i S) → Both (place s S t) (place s S u) (placed W π (suc s) sets (place s S t)) (placed W π (suc s) sets (place s S u)) i
          → Both t u (placed W π (suc s) sets (place s S t)) (placed W π (suc s) sets (place s S u)) i
      go d (inl e) = inl e
      go (yes m) (inr e) = inl (e.0 ∙ place_in s S t i a m ∙ sym (place_in s S u i b m) ∙ sym e.1)
      go (no n) (inr e) = inr (e.0 ∙ place_out s S t i n, e.1 ∙ place_out s S u i n)

  -- what is no job is not written
  placed-out : (sets : List ℕ) (s : ℕ) (t : List ℕ) (i : ℕ) → W.n ≤ i → at (placed W π s sets t) i ≡ at t i
  unfolding placed
  placed-out [] s t i h = refl
  placed-out (x ∷ sets) s t i h =
      placed-out sets (suc s) _ i h
      ∙ place_out s _ t i (λ m. omega (arith, ((in_held W s i).0 ((in-jobs π (held W s) (record { bits = x }) i).0 m).0).0))

  -- an array of m zeros has, after the sets of a plan, the starts of its list, and zeros behind them
  pub starts-are : (sets : List ℕ) (limit C m : ℕ) → W.n ≤ m → C ≤ limit → Fits W.n C (placed W π 0 sets (replicate W.n limit))
      → placed W π 0 sets (replicate m 0) ≡ tabulate (at (placed W π 0 sets (replicate W.n limit))) m 0
  starts-are sets limit C m n-le in-limit fits =
      ext_get_or 0 a (tabulate (at t) m 0) (len ∙ sym (length-tabulate (at t) m 0))
      (λ i l. each i (omega (arith, len)) (dec_lt i W.n) ∙ sym (tabulate-at (at t) m 0 i 0 (omega (arith, len)) ∙ ap (at t) (omega arith)))
    where
      t : List ℕ
      t = placed W π 0 sets (replicate W.n limit)

      a : List ℕ
      a = placed W π 0 sets (replicate m 0)

      len : length a ≡ m
      len = length-placed sets 0 (replicate m 0) ∙ length-replicate m 0

      started : (i : ℕ) → i < W.n → Both (replicate m 0) (replicate W.n limit) a t i → at a i ≡ at t i
      started i l (inl e) = e
      started i l (inr e) = absurd (omega (arith, fits.below i l, e.1 ∙ get_or-replicate W.n i limit 0 l))

      each : (i : ℕ) → i < m → Dec (i < W.n) → at a i ≡ at t i
      each i l (yes h) =
          let p = length-replicate {A = ℕ} m 0 in
          let q = length-replicate {A = ℕ} W.n limit in
          started i h (placed-both sets 0 (replicate m 0) (replicate W.n limit) i (omega arith) (omega arith))
      each i l (no h) = placed-out sets 0 (replicate m 0) i (omega arith) ∙ zeros-at m i ∙ sym (get_or-eq_default t 0 {n = i} (omega (arith, fits.len)))

-- so the sets of the plan of C slots, written into zeros, give its list
pub plan-starts : (W : Windows) (Z : Seats W) (C : ℕ) (A : Tables) → Shows W Z C A → (cap limit m : ℕ) → W.n ≤ m → C ≤ limit
    → Fits W.n C (placed W Z.place 0 (plan_of A cap C).sets (replicate W.n limit))
    → written A 0 (plan_of A cap C).sets (replicate m 0) ≡ tabulate (at (placed W Z.place 0 (plan_of A cap C).sets (replicate W.n limit))) m 0
plan-starts W Z C A sh cap limit m n-le in-limit fits =
    let p = plan-proper W Z C A sh cap in
    written_is W Z C A sh (plan_of A cap C).sets 0 (omega (arith, p.short)) p.of_places (replicate m 0)
    ∙ starts-are W Z.place (plan_of A cap C).sets limit C m n-le in-limit fits
