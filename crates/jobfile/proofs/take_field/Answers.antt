-- `jobfile::take_field` meets its contract. Assumes nothing.
use mathlib.Core.Path.{◌≡◌, refl, sym, ap, ap₂, ◌∙◌}
use mathlib.Core.List.{List}
use Prim.Native.Nat.{ℕ}
use native.Mathlib.Omega.{arith}
use borrow.Author.Tests.{ne_eqb}
use Rattle.rules.specs.Basics.{choose, at}
use Rattle.rules.specs.Fields.{ask}
use Rattle.rules.specs.Numbers.{word}
use Rattle.rules.specs.JobFile.{field_rows, first_row, field_row, content_ok, is_need, giver_of, taker_of}
use Rattle.jobfile.specs.Reading.{State, counted_more, take_need, take_field}
use Rattle.jobfile.specs.Values.{value-long}
use Rattle.jobfile.proofs.take_field.Goals as goal

-- a field with this tag is answered as its reader does
by-tag : (s : State) (t tag a : ℕ) (v : List ℕ) → tag ≡ t → take_field s t a v ≡ take_field s tag a v
by-tag s t tag a v e = ap (λ (x : ℕ). take_field s x a v) (sym e)

-- a need with numbers of one byte, and of two
one_byte : (s : State) (a : ℕ) (v : List ℕ) → take_need s (at v 0) (at v 1) ≡ take_field s 4 a v
unfolding take_field is_need giver_of taker_of content_ok ask choose
one_byte s a v = refl

two_bytes : (s : State) (a : ℕ) (v : List ℕ) → take_need s (word (at v 0) (at v 1)) (word (at v 2) (at v 3)) ≡ take_field s 6 a v
unfolding take_field is_need giver_of taker_of content_ok ask choose
two_bytes s a v = refl

pub take_header-requires : goal.take_header-requires
unfolding field_row first_row field_rows choose
take_header-requires c = let p = c.requires in let h = value-long 1 _ _ c.in-1.is p.3 in (p.0, omega arith)

pub take_limit-requires : goal.take_limit-requires
unfolding field_row first_row field_rows choose
take_limit-requires c = let p = c.requires in let h = value-long 2 _ _ c.in-2.is p.3 in (p.0, omega arith)

pub take_job-requires : goal.take_job-requires
unfolding field_row first_row field_rows choose
take_job-requires c = let p = c.requires in let h = value-long 3 _ _ c.in-3.is p.3 in (p.0, p.1, p.2, omega arith, p.4)

pub take_sockets-requires : goal.take_sockets-requires
unfolding field_row first_row field_rows choose
take_sockets-requires c = let p = c.requires in let h = value-long 9 _ _ c.in-9.is p.3 in (p.0, omega arith)

pub bounds-v-0 : goal.bounds-v-0
unfolding field_row first_row field_rows choose
bounds-v-0 c = let h = value-long 4 _ _ c.in-4.is c.requires.3 in omega arith

pub bounds-v-1 : goal.bounds-v-1
unfolding field_row first_row field_rows choose
bounds-v-1 c = let h = value-long 4 _ _ c.in-4.is c.requires.3 in omega arith

pub word_at-requires : goal.word_at-requires
unfolding field_row first_row field_rows choose
word_at-requires c = let h = value-long 6 _ _ c.in-6.is c.requires.3 in omega arith

pub word_at-requires-in-6 : goal.word_at-requires-in-6
unfolding field_row first_row field_rows choose
word_at-requires-in-6 c = let h = value-long 6 _ _ c.in-6.is c.requires.3 in omega arith

pub returns-in-4 : goal.returns-in-4
returns-in-4 c =
    let w = c.take_need.ensures in
    let a = c.args in
    let numbers = ap₂ (take_need _) c.from.ensures c.from-in-4.ensures in
    (w.0 _ ∙ numbers ∙ one_byte _ a.at a.v.now ∙ by-tag _ 4 _ a.at a.v.now c.in-4.is, w.1)

pub returns-in-6 : goal.returns-in-6
returns-in-6 c =
    let w = c.take_need-in-6.ensures in
    let a = c.args in
    let numbers = ap₂ (take_need _) (c.from-in-6.ensures ∙ c.word_at.ensures) (c.from-in-6-2.ensures ∙ c.word_at-in-6.ensures) in
    (w.0 _ ∙ numbers ∙ two_bytes _ a.at a.v.now ∙ by-tag _ 6 _ a.at a.v.now c.in-6.is, w.1)

pub returns-in_default : goal.returns-in_default
unfolding counted_more is_need take_field content_ok ask choose
returns-in_default c = (
  simp (
    c.counted.ensures,
    ne_eqb c.args.tag 1 (λ e. omega arith),
    ne_eqb c.args.tag 2 (λ e. omega arith),
    ne_eqb c.args.tag 3 (λ e. omega arith),
    ne_eqb c.args.tag 4 (λ e. omega arith),
    ne_eqb c.args.tag 6 (λ e. omega arith),
    ne_eqb c.args.tag 9 (λ e. omega arith),
  ),
  refl,
)
