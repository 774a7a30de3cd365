-- A slot gets what the slot before it had: what the code writes into the tables. `b` is the slot before, `s` the slot. Assumes nothing.
use Rattle.std.specs.Prelude.{◌≡◌, List, ℕ, suc, ◌+◌, ◌*◌, ◌/◌, ◌<◌, set}
use Rattle.std.proofs.Common.{ap₂, ◌∙◌, arith, length-set, get_or-set_same, get_or-set_other}
use Rattle.rules.specs.Sizes.{max_width, max_limit}
use Rattle.rules.specs.Basics.{at}
use Rattle.jobset.specs.declared.Set.{Set}
use Rattle.jobset.specs.Sets.{set_at, minus}
use Rattle.layout.specs.Layout.{held_at, ends_at, marks_at, prev_at, who_at, place_sets}
use Rattle.threes.specs.Threes.{threes}
use Rattle.seats.specs.Bytes.{same_set, minus-le}
use Rattle.seats.specs.Words.{Small, small-set, with_row, row_other, row_at, small_row}

-- ---- the jobs stay at their places

-- the givers of the job at place p: those of the slot before, without those that ended there
unfoldable pub left_at : List ℕ → ℕ → Set → ℕ → ℕ
left_at words b ended p = (minus (set_at words (prev_at + max_width * b + p)) ended).bits

-- the job at place p
unfoldable pub job_at : List ℕ → ℕ → ℕ → ℕ
job_at words b p = at words (who_at + max_width * b + p)

-- all eight places: first the givers, then the jobs
unfoldable pub givers_stay : List ℕ → ℕ → ℕ → List ℕ
givers_stay words b s = with_row (prev_at + max_width * s) (left_at words b (set_at words (ends_at + b))) max_width words

unfoldable pub stayed : List ℕ → ℕ → ℕ → List ℕ
stayed words b s = with_row (who_at + max_width * s) (job_at (givers_stay words b s) b) max_width (givers_stay words b s)

record Stayed (n : ℕ) (words : List ℕ) (b s : ℕ) (after : List ℕ) : Type 0 where
  small : Small n after
  prev : (p : ℕ) → p < max_width → set_at after (prev_at + max_width * s + p) ≡ minus (set_at words (prev_at + max_width * b + p)) (set_at words (ends_at + b))
  who : (p : ℕ) → p < max_width → at after (who_at + max_width * s + p) ≡ at words (who_at + max_width * b + p)
  other : (k : ℕ) → ((p : ℕ) → p < max_width → ¬ (k ≡ prev_at + max_width * s + p)) → ((p : ℕ) → p < max_width → ¬ (k ≡ who_at + max_width * s + p))
      → at after k ≡ at words k

stayed-is : (n : ℕ) (words : List ℕ) (b s : ℕ) → s ≡ suc b → s < max_limit → Small n words → Stayed n words b s (stayed words b s)
unfolding stayed givers_stay left_at job_at
stayed-is n words b s next below sm = record {
  small = small_row (who_at + max_width * s) job one n max_width small1 (omega arith) (omega arith) (λ p h g l. absurd (omega arith))
      (λ p h g l. small1.jobs (who_at + max_width * b + p) (omega arith) (omega arith));
  prev = λ p h. same_set (row_other (who_at + max_width * s) job one max_width (prev_at + max_width * s + p) (λ q l e. omega arith)
      ∙ row_at (prev_at + max_width * s) left words max_width p h (omega (arith, sm.len)));
  who = λ p h. row_at (who_at + max_width * s) job one max_width p h (omega (arith, small1.len)) ∙ old (who_at + max_width * b + p) (λ q l e. omega arith);
  other = λ k f g. row_other (who_at + max_width * s) job one max_width k g ∙ old k f;
}
  where
    left : ℕ → ℕ
    left = left_at words b (set_at words (ends_at + b))

    one : List ℕ
    one = with_row (prev_at + max_width * s) left max_width words

    job : ℕ → ℕ
    job = job_at one b

    old : (k : ℕ) → ((p : ℕ) → p < max_width → ¬ (k ≡ prev_at + max_width * s + p)) → at one k ≡ at words k
    old = row_other (prev_at + max_width * s) left words max_width

    small1 : Small n one
    small1 = small_row (prev_at + max_width * s) left words n max_width sm (omega arith) (omega arith)
        (λ p h g l. omega (
          arith,
          minus-le (set_at words (prev_at + max_width * b + p)) (set_at words (ends_at + b)),
          sm.prevs (prev_at + max_width * b + p) (omega arith) (omega arith),
        ))
        (λ p h g l. absurd (omega arith))

-- ---- all that a slot gets

-- the places of the slot before without those that end
unfoldable pub carried_held : List ℕ → ℕ → ℕ → Set
carried_held words b s = minus (set_at words (held_at + b)) (set_at words (ends_at + s))

-- where the row of marks behind the slot's own begins
unfoldable pub next_mark : List ℕ → ℕ → ℕ → ℕ
next_mark words b s = at words (marks_at + s) + (threes (set_at words (held_at + b)) / 4 + 1)

unfoldable pub carried : List ℕ → ℕ → ℕ → List ℕ
carried words b s = stayed (set (set words (held_at + s) (carried_held words b s).bits) (marks_at + s + 1) (next_mark words b s)) b s

pub record Carried (n : ℕ) (words : List ℕ) (b s : ℕ) (after : List ℕ) : Type 0 where
  pub small : Small n after
  pub held : set_at after (held_at + s) ≡ carried_held words b s
  pub mark : at after (marks_at + s + 1) ≡ next_mark words b s
  pub prev : (p : ℕ) → p < max_width
      → set_at after (prev_at + max_width * s + p) ≡ minus (set_at words (prev_at + max_width * b + p)) (set_at words (ends_at + b))
  pub who : (p : ℕ) → p < max_width → at after (who_at + max_width * s + p) ≡ at words (who_at + max_width * b + p)
  pub other : (k : ℕ) → ¬ (k ≡ held_at + s) → ¬ (k ≡ marks_at + s + 1) → ((p : ℕ) → p < max_width → ¬ (k ≡ prev_at + max_width * s + p)) →
      ((p : ℕ) → p < max_width → ¬ (k ≡ who_at + max_width * s + p)) → at after k ≡ at words k

pub carried-is : (n : ℕ) (words : List ℕ) (b s : ℕ) → s ≡ suc b → s < max_limit → Small n words → Carried n words b s (carried words b s)
unfolding carried
carried-is n words b s next below sm = record {
  small = each.small;
  held = same_set (each.other (held_at + s) (λ p m e. omega arith) (λ p m e. omega arith) ∙ past (held_at + s) (λ e. omega arith) ∙ get_or-set_same words
      (held_at + s) here.bits 0 (omega (arith, sm.len)));
  mark = each.other (marks_at + s + 1) (λ p m e. omega arith) (λ p m e. omega arith)
      ∙ get_or-set_same one (marks_at + s + 1) (next_mark words b s) 0 (omega (arith, sm.len, length-set words (held_at + s) here.bits));
  prev = λ p l. each.prev p l ∙ ap₂ minus (same_set (both (prev_at + max_width * b + p) (λ e. omega arith) (λ e. omega arith)))
      (same_set (both (ends_at + b) (λ e. omega arith) (λ e. omega arith)));
  who = λ p l. each.who p l ∙ both (who_at + max_width * b + p) (λ e. omega arith) (λ e. omega arith);
  other = λ k f g h l. each.other k h l ∙ both k f g;
}
  where
    here : Set
    here = carried_held words b s

    byte : here.bits < place_sets
    byte = unfold carried_held in omega (arith, minus-le (set_at words (held_at + b)) (set_at words (ends_at + s)), sm.sets (held_at + b) (omega arith))

    one : List ℕ
    one = set words (held_at + s) here.bits

    two : List ℕ
    two = set one (marks_at + s + 1) (next_mark words b s)

    past : (k : ℕ) → ¬ (k ≡ marks_at + s + 1) → at two k ≡ at one k
    past k = get_or-set_other one (marks_at + s + 1) k (next_mark words b s) 0

    both : (k : ℕ) → ¬ (k ≡ held_at + s) → ¬ (k ≡ marks_at + s + 1) → at two k ≡ at words k
    both k f g = past k g ∙ get_or-set_other words (held_at + s) k here.bits 0 f

    small2 : Small n two
    small2 = small-set n one (marks_at + s + 1) (next_mark words b s)
        (small-set n words (held_at + s) here.bits sm (omega arith) (λ _. byte) (λ h _. absurd (omega arith)) (λ h _. absurd (omega arith)))
        (omega arith) (λ h. absurd (omega arith)) (λ h _. absurd (omega arith)) (λ h _. absurd (omega arith))

    each : Stayed n two b s (stayed two b s)
    each = stayed-is n two b s next below small2
