-- Answers to questions, and the fields of a file (document 01, "Job file and table file", "The questions"). Assumes nothing.
use Rattle.std.specs.Prelude.{Bool, true, false, ◌&&◌, List, [], ◌∷◌, ◌++◌, ℕ, zero, suc, ◌+◌, ◌-◌, length, take, drop, leb, ltb}
use Rattle.rules.specs.Basics.{choose, at}
use Rattle.rules.specs.Numbers.{word, low, high}

-- a refusal with the number of its question, or what was asked for
pub data Answer (A : Type 0) : Type 0 where
  refused : ℕ → Answer A
  got : A → Answer A

-- the number of a refusal; 0 where there is none
unfoldable pub number_of : {A : Type 0} → Answer A → ℕ
number_of (refused q) = q
number_of (got a) = 0

-- a "no" "gives the number, and nothing later is asked": question q, and what follows a yes
unfoldable pub ask : {A : Type 0} → Bool → ℕ → Answer A → Answer A
ask true q rest = rest
ask false q rest = refused q

-- what follows where nothing was refused
unfoldable pub after : {A B : Type 0} → Answer A → (A → Answer B) → Answer B
after (refused q) f = refused q
after (got a) f = f a

-- the bytes from offset a to before offset e
unfoldable pub part : List ℕ → ℕ → ℕ → List ℕ
part bs a e = take (e - a) (drop a bs)

-- "A field is a one-byte tag, a two-byte length and that many value bytes"
unfoldable pub field : ℕ → List ℕ → List ℕ
field tag v = tag ∷ low (length v) ∷ high (length v) ∷ v

-- where the field at offset a ends, by the length in its head; the next field starts there
unfoldable pub field_end : List ℕ → ℕ → ℕ
field_end bs a = a + 3 + word (at bs (a + 1)) (at bs (a + 2))

-- the value of the field at offset a: the part of the file behind its head
unfoldable pub value : List ℕ → ℕ → List ℕ
value bs a = part bs (a + 3) (field_end bs a)

-- "Are its head and value whole?" (question 3)
unfoldable pub whole : List ℕ → ℕ → Bool
whole bs a = leb (a + 3) (length bs) && leb (field_end bs a) (length bs)

-- "for each field from the front": from offset a on, `step` is asked of each field with what was read before it.
-- The first number bounds the fields; the length of the file is enough (law `over_fields-enough`)
unfoldable pub over_fields : {A : Type 0} → (A → ℕ → Answer A) → ℕ → List ℕ → ℕ → A → Answer A
over_fields step zero bs a s = got s
over_fields step (suc k) bs a s =
    choose (ltb a (length bs)) (after (step s a) (λ t. over_fields step k bs (field_end bs a) t)) (got s)

-- the bytes of the fields from offset a on, each as it stands, but those at the offsets that `out` says; bounded likewise
unfoldable pub fields_but : (ℕ → Bool) → ℕ → List ℕ → ℕ → List ℕ
fields_but out zero bs a = []
fields_but out (suc k) bs a =
    let rest = fields_but out k bs (field_end bs a) in
    choose (ltb a (length bs)) (choose (out a) rest (part bs a (field_end bs a) ++ rest)) []
