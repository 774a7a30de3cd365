-- `needsets::starts::slots` meets its contract. Assumes nothing.
use mathlib.Core.Path.{ap, ◌∙◌}
use Prim.Native.Nat.{ℕ, ◌+◌, max}
use Rattle.rules.specs.Basics.{at}
use Rattle.needsets.specs.StartLaws.{four-slots}
use Rattle.needsets.proofs.starts.slots.Goals as goal

pub returns : goal.returns
returns c =
    let l = c.args.starts.now in
    ap (λ (x : ℕ). x + 1) (c.from.ensures ∙ c.max-last.ensures ∙ ap (max (at l 0)) (c.max-2.ensures ∙ ap (max (at l 1)) c.max.ensures))
    ∙ four-slots l c.requires
