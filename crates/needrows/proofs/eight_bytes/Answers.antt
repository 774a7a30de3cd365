-- `needrows::eight_bytes` meets its contract: eight bytes as a number, low byte first. Assumes nothing.
use Rattle.std.proofs.Common.{rules, arith, ℕ, ◌+◌, ◌<◌, ◌≡◌, ◌∙◌, ap, List, take, drop}
use Rattle.std.specs.List.{slice_index}
use Rattle.std.proofs.lemmas.List.{get_or-take, get_or-drop}
use Rattle.rules.specs.Basics.{at}
use Rattle.needrows.specs.Rows.{byte_at, two_at, four_at, eight_at, word_from}
use Rattle.needrows.proofs.eight_bytes.Goals as goal

-- byte i of the eight from p on is byte j of the rows
byte : (rows : List ℕ) (p : ℕ) → ((i : ℕ) → at rows i < 256) → (bs : List ℕ) → bs ≡ take 8 (drop p rows)
    → (i j : ℕ) → i < 8 → p + i ≡ j → slice_index bs i ≡ byte_at rows j
unfolding byte_at
byte rows p small bs e i j h q = rw (e, ← q) (get_or-take 8 (drop p rows) i 0 h ∙ get_or-drop p rows i 0 ∙ omega (arith, small (p + i)))

pub returns : goal.returns
unfolding word_from eight_at four_at two_at
returns c =
    let p = c.args.at in
    let b : (i j : ℕ) → i < 8 → p + i ≡ j → slice_index c.copy_from_slice.new.self i ≡ byte_at c.args.rows.now j =
    byte c.args.rows.now p (λ i. omega (arith, c.type_inv.rows i)) _ (search rules) in
    let e0 = b 0 p (omega arith) (omega arith) in
    let e1 = b 1 (p + 1) (omega arith) (omega arith) in
    let e2 = b 2 (p + 2) (omega arith) (omega arith) in
    let e3 = b 3 (p + 2 + 1) (omega arith) (omega arith) in
    let e4 = b 4 (p + 4) (omega arith) (omega arith) in
    let e5 = b 5 (p + 4 + 1) (omega arith) (omega arith) in
    let e6 = b 6 (p + 4 + 2) (omega arith) (omega arith) in
    let e7 = b 7 (p + 4 + 2 + 1) (omega arith) (omega arith) in
    ap (λ (x : ℕ). record { bits = x }) (omega (arith, c.from_le_bytes.ensures))
