-- The search over places for a plan of one length, without marks, and a plan read as a start list. The state before slot s is `done`
-- and `ran`, places of the slot before: done by its end, and ran in it. Which sets a slot tries is a parameter. Assumes nothing.
use Rattle.std.specs.Prelude.{Bool, true, false, List, [], ◌∷◌, ℕ, zero, suc, ◌+◌}
use Rattle.std.proofs.Math.Option.{Option, none, some}
use Rattle.rules.specs.Basics.{choose}
use Rattle.jobset.specs.declared.Set.{Set}
use Rattle.jobset.specs.Sets.{union, is_subset}
use Rattle.dominance.specs.Placing.{place}
use Rattle.threes.specs.Threes.{number_of}
use Rattle.places.specs.Seats.{jobs_of}
use Rattle.places.specs.Windows.{Windows, held}
use Rattle.places.specs.Tables.{Tables}
use Rattle.places.specs.Slot.{carried}

-- a plan: whether there is one, and the sets of its slots, places of each
pub record Plan : Type 0 where
  pub ok : Bool
  pub sets : List ℕ

abbrev pub no_plan : Plan
no_plan = record { ok = false; sets = [] }

-- the plan of no more slots
abbrev pub finished : Plan
finished = record { ok = true; sets = [] }

-- a slot with the set S, then a plan
unfoldable pub slot_then : Set → Plan → Plan
slot_then S plan = record { ok = true; sets = S.bits ∷ plan.sets }

-- the sets that a slot tries in a state, in their order
abbrev pub Tries : Type 0
Tries = ℕ → Set → Set → List Set

-- the first set from which `go` finds the rest
unfoldable pub try_all : (Set → Plan) → List Set → Plan
try_all go [] = no_plan
try_all go (S ∷ Ss) =
    let rest = try_all go Ss in
    choose (go S).ok (slot_then S (go S)) rest

-- what is done after slot s, as places of slot s
unfoldable pub done_after : Tables → ℕ → Set → Set → Set
done_after A s done S = union (carried A s done) S

-- the plan that is found with `left` slots left from slot s on: none where a job that is due is not done. (After the last slot all are due)
unfoldable pub find : Tables → Tries → ℕ → ℕ → Set → Set → Plan
find A tries zero s done ran = choose (is_subset (A.due s) done) finished no_plan
find A tries (suc k) s done ran =
    let tried = try_all (λ S. find A tries k (suc s) (done_after A s done S) S) (tries s done ran) in
    choose (is_subset (A.due s) done) tried no_plan

-- the mark of a state: its number, in a row of its own for each slot; base s is the first mark of the row of slot s
unfoldable pub key : (ℕ → ℕ) → ℕ → Set → Set → ℕ
key base s done ran = base s + number_of done ran

-- ---- a plan as a start list

-- t with the sets of the slots from s on placed
unfoldable pub placed : Windows → (ℕ → ℕ) → ℕ → List ℕ → List ℕ → List ℕ
placed W π s [] t = t
placed W π s (x ∷ xs) t = placed W π (suc s) xs (place s (jobs_of π (held W s) (record { bits = x })) t)

-- the list of a plan from slot s on, where t has the starts before
unfoldable pub list_of : Windows → (ℕ → ℕ) → ℕ → List ℕ → Plan → Option (List ℕ)
list_of W π s t plan = choose plan.ok (some (placed W π s plan.sets t)) none
