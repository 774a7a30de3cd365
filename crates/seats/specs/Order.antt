-- The order in which a file's jobs enter, slot by slot, and the place that each gets. Assumes nothing.
use Rattle.std.specs.Prelude.{◌≡◌, refl, ◌⊎◌, ◌↔◌, ℕ, zero, suc, ◌+◌, ◌-◌, ◌≤◌, ◌<◌, eqb, ltb}
use Rattle.std.proofs.Common.{sym, ap, ◌∙◌, inl, inr, ⊎_elim, arith}
use mathlib.Core.List.Memᴰ
use mathlib.Core.List.{List, [], ◌∷◌, ◌++◌, append-nil, append_assoc, Memᴰ}
use Rattle.std.proofs.Math.Decide.{dec_lt}
use Rattle.rules.specs.Sizes.{max_width}
use Rattle.rules.specs.Basics.{most}
use Rattle.laws.specs.Tests.{T-eqb, T-ltb}
use Rattle.laws.specs.Counting.{passing, passing-in}
use Rattle.jobset.specs.Sets.{member}
use Rattle.jobset.specs.Tests.{present}
use Rattle.places.specs.Seats.{in-seats}
use Rattle.places.specs.Windows.{Windows, held, in_held, Seats}
use Rattle.places.specs.Assign.{Lowest, taken, assigned, entering, entering-is, Enough}
use Rattle.places.proofs.Assign.{assigned-at}

-- the jobs by release, then by number
abbrev pub order_of : Windows → List ℕ
order_of W = entering W (most (λ i. suc (W.r i)) W.n)

-- the place of each job: the lowest that no job before it in this order has whose window goes on
abbrev pub place_of : Windows → ℕ → ℕ
place_of W = assigned W (order_of W)

-- the jobs that enter a slot
abbrev pub entrants : Windows → ℕ → List ℕ
entrants W s = passing (λ i. eqb (W.r i) s) W.n

-- those that enter in the k slots from m up
later : Windows → ℕ → ℕ → List ℕ
later W zero m = []
later W (suc k) m = later W k m ++ entrants W (k + m)

pub in-entrants : (W : Windows) (s i : ℕ) → Memᴰ i (entrants W s) ↔ ((i < W.n) × (W.r i ≡ s))
in-entrants W s i = let w = passing-in (λ i. eqb (W.r i) s) W.n i in
    (λ m. ((w.0 m).0, (T-eqb (W.r i) s).0 (w.0 m).1), λ h. w.1 (h.0, (T-eqb (W.r i) s).1 h.1))

in-later : (W : Windows) (k m i : ℕ) → Memᴰ i (later W k m) → (i < W.n) × (m ≤ W.r i) × (W.r i < k + m)
unfolding later
in-later W zero m i a = absurd (Memᴰ.not-nil a)
in-later W (suc k) m i a = ⊎_elim (λ b. omega (arith, in-later W k m i b)) (λ b. omega (arith, (in-entrants W (k + m) i).0 b))
    (Memᴰ.append_cases (later W k m) a)

-- those that entered before slot m stand first
entering-later : (W : Windows) (k m : ℕ) → entering W (k + m) ≡ entering W m ++ later W k m
unfolding entering later
entering-later W zero m = let e : 0 + m ≡ m = omega arith in rw e (sym (append-nil (entering W m)))
entering-later W (suc k) m = let e : suc k + m ≡ suc (k + m) = omega arith in
    rw e (ap (λ (l : List ℕ). l ++ entrants W (k + m)) (entering-later W k m) ∙ append_assoc (entering W m) (later W k m) (entrants W (k + m)))

pub in-entering : (W : Windows) (m i : ℕ) → Memᴰ i (entering W m) ↔ ((i < W.n) × (W.r i < m))
unfolding entering
in-entering W zero i = (λ a. absurd (Memᴰ.not-nil a), λ h. absurd (omega (arith, h.1)))
in-entering W (suc m) i = (
  λ a. ⊎_elim (λ b. let w = (in-entering W m i).0 b in (w.0, omega (arith, w.1))) (λ b. let w = (in-entrants W m i).0 b in (w.0, omega (arith, w.1)))
      (Memᴰ.append_cases (entering W m) a),
  λ h. pick (in-entering W m i).1 h.0 h.1 (dec_lt (W.r i) m),
)
  where
    pick : ((i < W.n) × (W.r i < m) → Memᴰ i (entering W m)) → i < W.n → W.r i < suc m → Dec (W.r i < m) → Memᴰ i (entering W m ++ entrants W m)
    pick f l h (yes q) = Memᴰ.append_left (entrants W m) (f (l, q))
    pick f l h (no q) = Memᴰ.append_right (entering W m) ((in-entrants W m i).1 (l, omega arith))

-- how many slots some job enters or could enter: one more than the greatest release
abbrev pub slots_of : Windows → ℕ
slots_of W = most (λ i. suc (W.r i)) W.n

-- the jobs behind those that enter before slot m
pub record Rest (W : Windows) (m : ℕ) : Type 0 where
  pub jobs : List ℕ
  pub whole : order_of W ≡ entering W m ++ jobs
  pub from : (i : ℕ) → Memᴰ i jobs → (i < W.n) × (m ≤ W.r i)

pub rest_of : (W : Windows) (m : ℕ) → m ≤ slots_of W → Rest W m
rest_of W m h = record {
  jobs = later W (slots_of W - m) m;
  whole = let e : slots_of W ≡ slots_of W - m + m = omega arith in ap (entering W) e ∙ entering-later W (slots_of W - m) m;
  from = λ i a. let w = in-later W (slots_of W - m) m i a in (w.0, w.1);
}

-- ---- places

-- a job behind others in the order has none of the places of those whose windows go on
pub place-lowest : (W : Windows) (xs ys : List ℕ) (i : ℕ) → order_of W ≡ xs ++ i ∷ ys → Lowest (taken W (place_of W) xs (W.r i)) (place_of W i)
place-lowest W xs ys i e = assigned-at W (order_of W) xs ys i (entering-is W).distinct e

differs : (W : Windows) (xs ys : List ℕ) (i j : ℕ) → order_of W ≡ xs ++ i ∷ ys → Memᴰ j xs → W.r i < W.d j → place_of W i < max_width → ¬
    (place_of W j ≡ place_of W i)
unfolding taken
differs W xs ys i j e m h l q = present (member (taken W (place_of W) xs (W.r i)) (place_of W i))
    ((in-seats (place_of W) (λ k. ltb (W.r i) (W.d k)) xs (place_of W i)).1 (j, m, q, (T-ltb (W.r i) (W.d j)).1 h)) ((place-lowest W xs ys i e).is_free l)

-- where an entry of a list stands
split : (l : List ℕ) (i : ℕ) → Memᴰ i l → (xs : List ℕ) × (ys : List ℕ) × (l ≡ xs ++ i ∷ ys)
split [] i m = absurd (Memᴰ.not-nil m)
split (x ∷ l) i m = go (Memᴰ.cases_cons m) (split l i)
  where
    go : (i ≡ x) ⊎ Memᴰ i l → (Memᴰ i l → (xs : List ℕ) × (ys : List ℕ) × (l ≡ xs ++ i ∷ ys)) → (xs : List ℕ) × (ys : List ℕ) × (x ∷ l ≡ xs ++ i ∷ ys)
    go (inl e) r = ([], l, ap (λ (z : ℕ). z ∷ l) (sym e))
    go (inr k) r = let w = r k in (x ∷ w.0, w.1, ap (λ (z : List ℕ). x ∷ z) w.2)

-- two jobs of one slot, of which one has a place, have different ones
pub place-apart : (W : Windows) (s i j : ℕ) → Memᴰ i (held W s) → Memᴰ j (held W s) → place_of W i < max_width → place_of W i ≡ place_of W j → i ≡ j
place-apart W s i j a b l q = go (split (order_of W) i ((all i).1 ((in_held W s i).0 a).0))
  where
    all : (k : ℕ) → Memᴰ k (order_of W) ↔ (k < W.n)
    all = (entering-is W).all

    -- the deadline of each is behind the other's release
    over : (k z : ℕ) → Memᴰ k (held W s) → Memᴰ z (held W s) → W.r k < W.d z
    over k z u v = omega (arith, ((in_held W s k).0 u).1, ((in_held W s z).0 v).2)

    behind : (xs ys : List ℕ) → order_of W ≡ xs ++ i ∷ ys → (us : List ℕ) × (vs : List ℕ) × (ys ≡ us ++ j ∷ vs) → i ≡ j
    behind xs ys e (us, vs, f) = absurd (differs W (xs ++ i ∷ us) vs j i (e ∙ ap (λ (z : List ℕ). xs ++ i ∷ z) f ∙ sym (append_assoc xs (i ∷ us) (j ∷ vs)))
        (Memᴰ.append_right xs (Memᴰ.head refl)) (over j i b a) (omega arith) q)

    go : (xs : List ℕ) × (ys : List ℕ) × (order_of W ≡ xs ++ i ∷ ys) → i ≡ j
    go (xs, ys, e) = ⊎_elim (λ m. absurd (differs W xs ys i j e m (over i j a b) l (sym q)))
        (λ m. ⊎_elim (λ z. sym z) (λ k. behind xs ys e (split ys j k)) (Memᴰ.cases_cons m))
        (Memᴰ.append_cases xs (rw e at ((all j).1 ((in_held W s j).0 b).0)))

-- each job with a window has a place: the assignment
abbrev pub HasPlaces : Windows → Type 0
HasPlaces W = Enough W (order_of W)

pub place-low : (W : Windows) → HasPlaces W → (s i : ℕ) → Memᴰ i (held W s) → place_of W i < max_width
place-low W f s i m = let w = (in_held W s i).0 m in f i w.0 (omega (arith, w.1, w.2))

abbrev pub seats_by : (W : Windows) → HasPlaces W → Seats W
seats_by W f = record { place = place_of W; low = place-low W f; apart = λ s i j a b. place-apart W s i j a b (place-low W f s i a) }
