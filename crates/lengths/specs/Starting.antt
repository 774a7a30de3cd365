-- The starts written slot by slot. Assumes nothing.
use Rattle.std.specs.Prelude.{◌≡◌, refl, List, [], ◌∷◌, ℕ, suc, ◌-◌, ◌≤◌, ◌<◌, length, take, drop, set}
use Rattle.std.proofs.Common.{arith, drop-cons}
use Rattle.jobset.specs.declared.Set.{Set}
use Rattle.jobset.specs.Sets.{set_at, members}
use Rattle.dominance.specs.Placing.{place}
use Rattle.places.specs.Tables.{Tables}
use Rattle.shortest.specs.Starts.{jobs_up, written}

-- one place of a slot
pub start-turn : (who : ℕ → ℕ) (s : ℕ) (rest others : Set) (p : ℕ) (t t' : List ℕ) → members rest ≡ p ∷ members others → t' ≡ set t (who p) s
    → place s (jobs_up who others) t' ≡ place s (jobs_up who rest) t
unfolding jobs_up place
start-turn who s rest others p t t' r e = rw (r, e) refl

pub start-end : (who : ℕ → ℕ) (s : ℕ) (rest : Set) (t : List ℕ) → members rest ≡ [] → place s (jobs_up who rest) t ≡ t
unfolding jobs_up place
start-end who s rest t e = rw e refl

-- the slots from s on, of so many
unfoldable pub starts_from : Tables → ℕ → ℕ → List ℕ → List ℕ → List ℕ
starts_from A s count path t = written A s (take (count - s) (drop s path)) t

-- one slot
pub slot_turn : (A : Tables) (s count : ℕ) (path t t' : List ℕ) → s < count → s < length path → t' ≡ place s (jobs_up (A.who s) (set_at path s)) t
    → starts_from A (suc s) count path t' ≡ starts_from A s count path t
unfolding starts_from
slot_turn A s count path t t' l h e =
    let f : count - s ≡ suc (count - suc s) = omega arith in
    rw (f, drop-cons path s 0 h, e) (unfold written in refl)

pub slots-start : (A : Tables) (count : ℕ) (path t : List ℕ) → starts_from A 0 count path t ≡ written A 0 (take count path) t
unfolding starts_from
slots-start A count path t = let f : count - 0 ≡ count = omega arith in rw f refl

pub slots_end : (A : Tables) (s count : ℕ) (path t : List ℕ) → count ≤ s → starts_from A s count path t ≡ t
unfolding starts_from written
slots_end A s count path t l = let f : count - s ≡ 0 = omega arith in rw f refl
