-- `needsets::starts::least_with` meets its contract. Assumes nothing.
use Rattle.std.proofs.Common.{◌≡◌, true, sym, ap, ◌∙◌, ℕ, min, Option, Some}
use Rattle.rules.specs.Program.{slots}
use Rattle.needsets.specs.Starts.{keeping, or_less}
use Rattle.needsets.specs.StartLaws.{least-with-not, least-with-kept}
use Rattle.needsets.proofs.starts.least_with.Goals as goal
use Rattle.needsets.proofs.starts.least_with.Goals.{Else-not-are_kept}

-- the list keeps the needs
kept : (c : Else-not-are_kept) → let a = c.args in keeping a.jobs a.number a.starts.now ≡ true
kept c = sym c.are_kept.ensures ∙ c.if-not-are_kept.false

pub returns-then-not-are_kept : goal.returns-then-not-are_kept
returns-then-not-are_kept c = least-with-not _ _ _ _ (sym c.are_kept.ensures ∙ c.if-not-are_kept.true)

pub returns-in-Some : goal.returns-in-Some
unfolding or_less
returns-in-Some c =
    ap Some (c.min.ensures ∙ ap (λ (x : ℕ). min x c.in-Some.fewest) c.slots-size.ensures)
    ∙ ap (λ (l : Option ℕ). Some (or_less (slots c.args.starts.now) l)) (sym c.in-Some.is)
    ∙ least-with-kept _ _ _ _ (kept (goal.at.returns-in-Some c).Else-not-are_kept)

pub returns-in-None : goal.returns-in-None
unfolding or_less
returns-in-None c =
    ap Some c.slots-size.ensures ∙ ap (λ (l : Option ℕ). Some (or_less (slots c.args.starts.now) l)) (sym c.in-None.is)
    ∙ least-with-kept _ _ _ _ (kept (goal.at.returns-in-None c).Else-not-are_kept)
