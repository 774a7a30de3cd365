-- `writer::put_row` meets its contract. Assumes nothing.
use Rattle.std.proofs.Common.{refl, ap, sym, ◌∙◌, arith, List, ℕ, ◌++◌, ◌-◌, length, take, drop}
use borrow.Rule.Slice.PartMut.{mid_of}
use Rattle.std.proofs.Math.Seq.{take_all}
use Rattle.levels.specs.Levels.{rounded}
use Rattle.writer.specs.RowLaws.{row-size, row_put}
use Rattle.writer.proofs.put_row.Goals as goal

pub returns : goal.returns
returns c =
    let p = c.requires in
    let level = c.centimetres-level.ensures ∙ ap rounded c.word_at.ensures in
    let name = take (length c.args.v.now - 2) (drop 2 c.args.v.now) in
    let behind = drop (length name) (mid_of 7 (length c.put_fixed.new.table - 7) c.put_fixed.new.table) in
    let put = c.put_name.ensures ∙ ap (λ (x : List ℕ). x ++ behind) (sym (take_all (length name) name (omega arith))) in
    record {
      size = row-size _ _ _ p.0 _ refl;
      bytes = row_put _ _ _ p.0 _ _ _ c.centimetres-level.result _ _ _ p.1 p.2 refl level c.put_fixed.ensures refl refl put;
    }
