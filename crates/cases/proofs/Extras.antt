-- Extra jobs behind those of a gate (document 02, request 12), by computing: "boards may move"; two groups that are planned can be too wide together; and
-- starts move where a term is left: with two boards, or with extras that need more slots than the gate. Assumes nothing.
-- Its definitions: specs/Extras.antt.
use Rattle.std.specs.Prelude.{◌≡◌, List, [], ◌∷◌, ℕ, ◌≤◌, T}
use Rattle.std.proofs.Common.{sym, ap, ◌∙◌, arith}
use Rattle.rules.specs.Basics.{at}
use Rattle.rules.specs.Fields.{got, after}
use Rattle.rules.specs.Table.{Table, starts}
use Rattle.laws.specs.Fields.{got_same}
use Rattle.laws.specs.Demands.{asked}
use Rattle.laws.specs.ExtraFiles.{ThreeTables}
use Rattle.cases.specs.Case.{Schedule, schedule, scheduled, Holds}
use Rattle.cases.specs.Cases.{plain}
use Rattle.cases.specs.Extras.{two_givers, chain_of_three, chain_behind, two-boards-move-starts}

-- ---- beyond the terms

-- the schedule of a case is that of the table that its file gets
schedule-is : {file : List ℕ} {S : Schedule} {T : Table} → Holds (plain file (got S)) → asked file ≡ got T → schedule T ≡ S
unfolding scheduled after
schedule-is {S = S} {T = T} h e = got_same (schedule T) S (sym (ap scheduled e) ∙ h.answers)

-- so what `starts-kept` gives with eight boards does not hold of these files
pub two-boards-not-kept : ¬ (ThreeTables two_givers chain_of_three chain_behind)
unfolding schedule
two-boards-not-kept k =
    let g = schedule-is two-boards-move-starts.gate-holds k.gate-gets.leads in
    let e = schedule-is two-boards-move-starts.extras-holds k.extras-gets.leads in
    let w = schedule-is two-boards-move-starts.whole-holds k.whole-gets.leads in
    let gate : starts k.gate-table ≡ 0 ∷ 0 ∷ 2 ∷ [] = ap (λ (S : Schedule). S.starts) g in
    let whole : starts k.whole-table ≡ 0 ∷ 1 ∷ 2 ∷ 0 ∷ 1 ∷ 2 ∷ [] = ap (λ (S : Schedule). S.starts) w in
    let short : k.extras-table.slots ≤ k.gate-table.slots = omega (arith, ap (λ (S : Schedule). S.slots) g, ap (λ (S : Schedule). S.slots) e) in
    let kept : ◌≡◌ {A = List ℕ} (0 ∷ 1 ∷ 2 ∷ []) (0 ∷ 0 ∷ 2 ∷ []) = rw (gate, whole) at (k.keeps short) in
    let second : ◌≡◌ {A = ℕ} 1 0 = ap (λ (l : List ℕ). at l 1) kept in
    omega arith
