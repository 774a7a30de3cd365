-- The numbers of the answers are those of the rules, and the name's number says where it stands. Assumes nothing.
use Rattle.std.specs.Prelude.{◌≡◌, ◌⊎◌, Option, Some, None, IfSome, Result, Ok, Err, List, ℕ, zero, suc, ◌+◌, ◌-◌, ◌*◌, ◌/◌, ◌%◌, ◌≤◌, ◌<◌, take, drop}
use Rattle.std.proofs.Math.Path.{refl}
use Rattle.std.proofs.Common.{sym, ap, ◌∙◌, arith, subst, inl, inr}
use Rattle.rules.specs.Sizes.{table_size}
use Rattle.rules.specs.Basics.{at}
use Rattle.rules.specs.Fields.{Answer, refused, got, number_of, part}
use Rattle.rules.specs.Table.{Table, row_start}
use Rattle.rules.specs.Answers.{Outcome, plan, lookup, name_span, name_at}
use Rattle.rules.specs.States.{plan_states}
use Rattle.laws.specs.Tests.{T-eqb, choose_yes, choose_no}
use Rattle.laws.specs.Numbers.{bytes-all}
use Rattle.laws.proofs.Demands.{plan-size, table-has-bytes}
use Rattle.laws.specs.States.{states-each}
use Rattle.planner.specs.Planner.{outcome_of}
use Rattle.refusals.specs.declared.Refusal.{Refusal}
use Rattle.refusals.specs.Refusals.{number, no-zero, answer_of, refusal_number, number-answered}
use Rattle.table.specs.Entries.{found_of, passed_of, place_of, number-passed}
use Rattle.table.specs.Names.{name-lies}
use Rattle.gate.specs.Numbers.{planned_size, said_number, answer_number, found_number, place_number}
use Rattle.std.specs.Result.{result_err}
use Rattle.gate.specs.Numbers.{plan_number, lookup_number, name_number}

-- the number and the size in the planner's answer are those of the rules' outcome
pub planned-number : (p : Result ℕ Refusal) (work table : List ℕ) (o : Outcome) → outcome_of p work table ≡ o
    → (refusal_number p ≡ o.number) × (planned_size p ≡ o.size)
planned-number (Ok k) work table o e = (ap (λ (x : Outcome). x.number) e, ap (λ (x : Outcome). x.size) e)
planned-number (Err q) work table o e = (ap (λ (x : Outcome). x.number) e, ap (λ (x : Outcome). x.size) e)

-- and so is its one number: a refusal's is not 0, since a table has bytes
pub answer-number : (p : Result ℕ Refusal) (work table : List ℕ) (o : Outcome) → outcome_of p work table ≡ o → (o.number ≡ 0 → 0 < o.size)
    → answer_number p ≡ plan_number o
unfolding answer_number plan_number
answer-number (Ok k) work table o e has-bytes = sym (ap plan_number (sym e) ∙ choose_yes _ _ _ ((T-eqb 0 0).1 refl))
answer-number (Err q) work table o e has-bytes = sym (ap plan_number (sym e) ∙ choose_no _ _ _ (λ t. no-zero q ((T-eqb (number q) 0).0 t)))

-- a table is no longer than the outcome's
pub size_few : (p : Result ℕ Refusal) (work table : List ℕ) (o : Outcome) → outcome_of p work table ≡ o → o.size ≤ table_size → planned_size p ≤ table_size
size_few p work table o e few = omega (arith, (planned-number p work table o e).1)

-- both buffers are the outcome's
pub buffers-left : (p : Result ℕ Refusal) (work table : List ℕ) (o : Outcome) → outcome_of p work table ≡ o → (work ≡ o.work) × (table ≡ o.table)
buffers-left (Ok k) work table o e = (ap (λ (x : Outcome). x.work) e, ap (λ (x : Outcome). x.table) e)
buffers-left (Err q) work table o e = (ap (λ (x : Outcome). x.work) e, ap (λ (x : Outcome). x.table) e)

-- the length of a table is small, and that of a table with state numbers
pub plan-few : (file work table : List ℕ) → ((i : ℕ) → at file i < 256) → (plan file work table).size ≤ table_size
plan-few file work table b = plan-size file work table (bytes-all file b)

pub states-few : (file work table states : List ℕ) → ((i : ℕ) → at file i < 256) → (plan_states file work table states).outcome.size ≤ table_size
states-few file work table states b =
    states-each file work table states (λ (o : Outcome). o.size ≤ table_size) (plan-few file work table b) (omega arith)

pub states-have-bytes : (file work table states : List ℕ) → (plan_states file work table states).outcome.number ≡ 0
    → 0 < (plan_states file work table states).outcome.size
states-have-bytes file work table states =
    states-each file work table states (λ (o : Outcome). o.number ≡ 0 → 0 < o.size) (table-has-bytes file work table) (λ z. absurd (omega arith))

-- where there is a table, nothing was refused
pub size_number : (p : Result ℕ Refusal) → (planned_size p ≡ 0 → ⊥) → refusal_number p ≡ 0
size_number (Ok k) h = refl
size_number (Err q) h = absurd (h refl)

pub found_number_lem : (x : Answer ℕ) → found_number (found_of x) ≡ lookup_number x
unfolding found_number found_of lookup_number
found_number_lem (refused q) = refl
found_number_lem (got zero) = refl
found_number_lem (got (suc i)) = refl

pub place-number : (bs : List ℕ) (x : Answer ℕ) → place_number (place_of bs x) ≡ name_number bs x
unfolding place_number place_of name_number name_span
place-number bs (refused q) = refl
place-number bs (got zero) = refl
place-number bs (got (suc i)) = refl

-- offset and length in the name's number are those of the name
pub name-at : (bs : List ℕ) (s b : ℕ) → let w = name_number bs (lookup bs s b) in name_at bs s b ≡ take (w % 65536) (drop (w / 65536) bs)
unfolding name_at
name-at bs s b = go (lookup bs s b) refl
  where
    far : (i : ℕ) → lookup bs s b ≡ got (suc i) → let w = (row_start bs i + 7) * 65536 + (row_start bs (suc i) - (row_start bs i + 7)) in
        (w % 65536 ≡ row_start bs (suc i) - (row_start bs i + 7)) × (w / 65536 ≡ row_start bs i + 7)
    far i e = omega (arith, name-lies bs s b i e)

    go : (x : Answer ℕ) → lookup bs s b ≡ x → part bs (name_span bs x).0 (name_span bs x).1 ≡ take (name_number bs x % 65536) (drop (name_number bs x / 65536) bs)
    go (refused q) e = unfold part name_span name_number in refl
    go (got zero) e = unfold part name_span name_number in refl
    go (got (suc i)) e = unfold part name_span name_number in let f = far i e in rw (f.0, f.1) refl

-- ---- the lookup's refusals

-- the number of what the lookup finds is that of the rules' answer
pub number-found : (x : Answer ℕ) → number_of (found_of x) ≡ number_of x
unfolding number_of found_of
number-found (refused q) = refl
number-found (got zero) = refl
number-found (got (suc i)) = refl

-- the number of a refusal too
pub refusal-number-is : (r : Result (Option ℕ) Refusal) (x : Answer ℕ) → answer_of r ≡ found_of x → refusal_number r ≡ number_of x
refusal-number-is r x e = number-answered r ∙ ap number_of e ∙ number-found x

-- ---- the check's refusals

pub check-number-is : (r : Result (Unit {0}) Refusal) (x : Answer Table) → answer_of r ≡ passed_of x → refusal_number r ≡ number_of x
check-number-is r x e = number-answered r ∙ ap number_of e ∙ number-passed x

-- ---- the question that a program prints

-- its number is that of the answer
pub said-number : {A : Type 0} (r : Result A Refusal) → said_number (result_err r) ≡ refusal_number r
said-number (Ok a) = refl
said-number (Err q) = refl

-- a question that said no has a number that is not 0
pub said-in : (P : ℕ → Type 0) (r : Option Refusal) (n : ℕ) → said_number r ≡ n → (n ≡ 0) ⊎ P n → IfSome r (λ q. P (number q))
said-in P None n e h = tt
said-in P (Some q) n e (inl z) = absurd (no-zero q (e ∙ z))
said-in P (Some q) n e (inr p) = subst P (sym e) p
