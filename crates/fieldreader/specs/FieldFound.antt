-- The rules' questions of a field are those of the field reader and then those of its value; a field that it gives stands in the file. Assumes nothing.
use Rattle.std.specs.Prelude.{◌≡◌, refl, Bool, true, false, ◌&&◌, List, ℕ, ◌+◌, ◌-◌, ◌≤◌, length, take, drop, T, Result, Ok, Err}
use Rattle.std.proofs.Common.{subst, arith}
use Rattle.rules.specs.Basics.{choose, at}
use Rattle.rules.specs.Fields.{Answer, refused, ask, part, field_end, value, whole}
use Rattle.rules.specs.JobFile.{JobFile, known_tag, in_place, length_ok, content_ok, add_field, read_field}
use Rattle.laws.specs.Tests.{by-choice}
use Rattle.laws.specs.Fields.{whole_is, after-head}
use Rattle.refusals.specs.declared.Refusal.{Refusal}
use Rattle.refusals.specs.declared.Refusal.TheVariants.{CutField, UnknownTag, MisplacedTag, BadValue}
use Rattle.refusals.specs.Refusals.{number}
use Rattle.fieldreader.specs.declared.Field.{Field}
use Rattle.fieldreader.specs.Reader.{field_at}

-- what follows the field reader's answer
unfoldable pub on_field : List ℕ → JobFile → ℕ → Result Field Refusal → Answer JobFile
on_field bs f a (Ok w) = ask (content_ok (at bs a) (value bs a)) 6 (add_field f (at bs a) (value bs a))
on_field bs f a (Err r) = refused (number r)

-- the rules' questions of a field are those of the field reader, and then those of its value
pub field-first : (bs : List ℕ) (f : JobFile) (a : ℕ) → read_field bs f a ≡ on_field bs f a (field_at bs a f.fields)
unfolding read_field field_at on_field ask choose
field-first bs f a = go (whole bs a) (known_tag (at bs a)) (in_place f.fields (at bs a)) (length_ok (at bs a) (length (value bs a)))
  where
    rest : Answer JobFile
    rest = add_field f (at bs a) (value bs a)

    there : Field
    there = record { tag = at bs a; start = a + 3; end = field_end bs a }

    go : (w k p l : Bool) → ask w 3 (ask k 4 (ask p 5 (ask (l && content_ok (at bs a) (value bs a)) 6 rest)))
        ≡ on_field bs f a (choose w (choose k (choose p (choose l (Ok there) (Err BadValue)) (Err MisplacedTag)) (Err UnknownTag)) (Err CutField))
    go false k p l = refl
    go true false p l = refl
    go true true false l = refl
    go true true true false = refl
    go true true true true = refl

-- a field that the reader gives stands in the file
pub record Stands (bs : List ℕ) (a : ℕ) (w : Field) : Type 0 where
  pub is_whole : T (whole bs a)
  pub tag_is : w.tag ≡ at bs a
  pub start_is : w.start ≡ a + 3
  pub end_is : w.end ≡ field_end bs a
  pub length-ok : T (length_ok (at bs a) (length (value bs a)))

-- the same of any answer: a field stands in the file
unfoldable Standing : List ℕ → ℕ → Result Field Refusal → Type 0
Standing bs a (Ok w) = Stands bs a w
Standing bs a (Err r) = Unit {0}

standing : (bs : List ℕ) (a k : ℕ) → Standing bs a (field_at bs a k)
unfolding field_at Standing
standing bs a k =
    by-choice (Standing bs a) (whole bs a) (λ w. by-choice (Standing bs a) (known_tag (at bs a)) (λ _. by-choice (Standing bs a) (in_place k (at bs a)) (λ _.
    by-choice (Standing bs a) (length_ok (at bs a) (length (value bs a)))
    (λ l. record { is_whole = w; tag_is = refl; start_is = refl; end_is = refl; length-ok = l })
    (λ _. tt)) (λ _. tt)) (λ _. tt)) (λ _. tt)

-- so a field that is given stands in the file
pub stands : (bs : List ℕ) (a k : ℕ) (w : Field) → field_at bs a k ≡ Ok w → Stands bs a w
unfolding Standing
stands bs a k w q = subst (Standing bs a) q (standing bs a k)

-- its value is the part of the file that the code hands on
pub value-is : (bs : List ℕ) (a : ℕ) (w : Field) → Stands bs a w → take (w.end - w.start) (drop w.start bs) ≡ value bs a
unfolding value part
value-is bs a w s = rw (s.start_is, s.end_is) refl

-- where it starts and ends
pub bounds : (bs : List ℕ) (a : ℕ) (w : Field) → Stands bs a w → (a + 3 ≤ w.end) × (w.start ≤ w.end) × (w.end ≤ length bs)
bounds bs a w s = omega (arith, s.start_is, s.end_is, after-head bs a, (whole_is bs a).0 s.is_whole)
