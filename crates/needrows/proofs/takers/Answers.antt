-- `needrows::takers` meets its contract: with the first word at hand all takers are to come. Assumes nothing.
use Rattle.std.proofs.Common.{◌≡◌, ◌+◌, ◌*◌, ◌-◌, ◌/◌, sym, ◌∙◌, arith}
use Rattle.jobset.specs.Sets.{empty}
use Rattle.jobset.specs.Members.{members-empty}
use Rattle.needrows.specs.Rows.{words_for}
use Rattle.needrows.specs.Takers.{next-word, all-to-come}
use Rattle.needrows.proofs.takers.Goals as goal

pub returns : goal.returns
returns c =
    let a = c.args in
    let n = words_for a.jobs in
    let e : 8 * (n - 1) / 8 + 1 ≡ n = omega arith in
    rw (c.words.ensures, e, c.word.ensures) (sym (next-word a.rows.now a.giver n 0 0 empty members-empty (omega arith)) ∙ all-to-come a.rows.now a.jobs a.giver)
