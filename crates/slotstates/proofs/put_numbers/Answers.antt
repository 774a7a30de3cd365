-- `slotstates::put_numbers` meets its contract. Assumes nothing.
use Rattle.std.proofs.Common.{sym, ap, subst, ◌∙◌, ℕ, ◌*◌, arith}
use Rattle.rules.specs.Numbers.{word_bytes}
use Rattle.laws.specs.Writing.{put, so-far-put, so-far-end}
use Rattle.threes.specs.Threes.{number_of}
use Rattle.slotstates.specs.declared.Ranks.{Ranks}
use Rattle.slotstates.specs.Ranks.{RanksFit, ranks-fit}
use Rattle.slotstates.specs.Slots.{slot_bytes, slots_bytes}
use Rattle.slotstates.proofs.put_numbers.Goals as goal

pub number-requires : goal.number-requires
number-requires c =
    let narrow = c.requires.3 _ c.loop-slot-test.true in subst (λ (z : Ranks). RanksFit z) (sym c.ranks_in-ranks.ensures) (ranks-fit _ _ narrow)

pub loop-slot-preserved : goal.loop-slot-preserved
unfolding slot_bytes
loop-slot-preserved c =
    let l = c.loop-slot in
    let e = c.number.ensures ∙ ap (λ (z : Ranks). number_of z.begun z.running) c.ranks_in-ranks.ensures in
    so-far-put l.invariant c.loop-slot-test.true _ _ (omega arith)
    (c.put_word.ensures ∙ ap (λ (w : ℕ). put (2 * l.slot) (word_bytes w) l.states) e)

pub returns : goal.returns
unfolding slots_bytes
returns c = so-far-end c.loop-slot.invariant c.loop-slot-test.false
