-- The slots of the planner's table, from its answer and the bytes that it leaves. Assumes nothing.
use Rattle.std.specs.Prelude.{◌≡◌, List, ◌++◌, ℕ, ◌≤◌, length, take, Result, Ok, Err}
use Rattle.std.proofs.Math.Path.{refl, sym, ap, subst}
use Rattle.std.proofs.Common.{◌∙◌, arith, length-append}
use Rattle.std.proofs.Math.Option.{none, some}
use Rattle.std.proofs.Math.Seq.{take-append_seam}
use Rattle.rules.specs.Sizes.{work_size, table_size}
use Rattle.rules.specs.Basics.{at}
use Rattle.rules.specs.Fields.{Answer, refused, got, field}
use Rattle.rules.specs.Table.{Table, encode}
use Rattle.rules.specs.Answers.{Outcome, written, plan}
use Rattle.rules.specs.SmallGates.{slots_in, planned_slots}
use Rattle.laws.specs.Demands.{asked, plan-full, answers-full}
use Rattle.laws.proofs.Demands.{answers-table, table-has-bytes}
use Rattle.refusals.specs.declared.Refusal.{Refusal}
use Rattle.planner.specs.Planner.{outcome_of}

-- a file of n bytes at the front of an array
module _ (file rest bs : List ℕ) (n : ℕ) (long : n ≡ length file) (front : bs ≡ file ++ rest) where
  pub file-fits : n ≤ length bs
  file-fits = omega (arith, long, ap length front, length-append file rest)

  pub file-part : take n bs ≡ file
  file-part = ap (λ (k : ℕ). take k bs) long ∙ ap (take (length file)) front ∙ take-append_seam file rest

-- what the planner answers and leaves
module _ (file work table : List ℕ) (p : Result ℕ Refusal) (work' table' : List ℕ) (answered : outcome_of p work' table' ≡ plan file work table) where
  -- a table: its slots stand in its head
  pub table-slots : (n : ℕ) → p ≡ Ok n → planned_slots file ≡ some (at table' 4)
  unfolding planned_slots slots_in written encode field
  table-slots n e =
      let h : outcome_of (Ok n) work' table' ≡ plan file work table = subst
      (λ (r : Result ℕ Refusal). outcome_of r work' table' ≡ plan file work table) e answered in
      let none = sym (ap (λ (o : Outcome). o.number) h) in
      let full = answers-full file work table none in
      let t = answers-table file work table none in
      ap slots_in t.1
      ∙ ap some (sym (ap (λ (o : Outcome). at o.table 4) (h ∙ plan-full file work table full.0 full.1 ∙ ap (λ (a : Answer Table). written a work table) t.1)))

  -- a refusal, with full buffers: there is no table
  pub refused-slots : work_size ≤ length work → table_size ≤ length table → (q : Refusal) → p ≡ Err q → planned_slots file ≡ none
  unfolding planned_slots slots_in written
  refused-slots full room q e = go (asked file) refl
    where
      h : outcome_of (Err q) work' table' ≡ plan file work table
      h = subst (λ (r : Result ℕ Refusal). outcome_of r work' table' ≡ plan file work table) e answered

      go : (a : Answer Table) → asked file ≡ a → slots_in a ≡ none
      go (refused k) w = refl
      go (got T) w =
          let none = ap (λ (o : Outcome). o.number) (plan-full file work table full room ∙ ap (λ (a : Answer Table). written a work table) w) in
          absurd (omega (arith, ap (λ (o : Outcome). o.size) h, table-has-bytes file work table none))
