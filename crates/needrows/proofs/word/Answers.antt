-- `needrows::word` meets its contract. Assumes nothing.
use Rattle.needrows.specs.Rows.{word_from, word_at}
use Rattle.needrows.proofs.word.Goals as goal

pub returns : goal.returns
unfolding word_from word_at
returns c = c.eight_bytes.ensures
