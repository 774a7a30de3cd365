-- Comments: one that stands behind the limit, at the end of a file or between its fields, changes no answer while the file is not too long. Assumes nothing.
use Rattle.std.specs.Prelude.{◌≡◌, ◌⊎◌, Bool, true, false, ◌&&◌, List, [], ◌++◌, ℕ, zero, suc, ◌+◌, ◌*◌, ◌-◌, ◌≤◌, ◌<◌, T, leb, ltb, eqb}
use Rattle.std.proofs.Math.Path.{refl}
use Rattle.std.proofs.Common.{sym, ap, subst, ◌∙◌, inl, inr, ⊎_elim, append-nil, arith}
use Rattle.std.proofs.Math.Option.{Option, none, some}
use Rattle.std.proofs.Math.Decide.{ℕ_discrete}
use Rattle.std.proofs.Math.ListN.{length, length-append}
use Rattle.rules.specs.Sizes.{max_width, max_file}
use Rattle.rules.specs.Basics.{choose, at}
use Rattle.rules.specs.Fields.{Answer, refused, got, ask, after, field, field_end, value, whole, over_fields}
use Rattle.rules.specs.Needs.{circle_free}
use Rattle.rules.specs.JobFile.{JobFile, field_rows, first_row, field_row, most_boards, known_tag, in_place, length_ok, content_ok, counted, with_limit}
use Rattle.rules.specs.JobFile.{with_sockets, with_job, with_need, job_of, is_need, need_of, add_need, add_sockets, add_field, read_field, no_fields, complete, read_file}
use Rattle.rules.specs.Windows.{width}
use Rattle.rules.specs.Preference.{best}
use Rattle.rules.specs.Boards.{runsb}
use Rattle.rules.specs.Table.{Table}
use Rattle.rules.specs.Answers.{table_of, tabled, plan_table, plan, check}
use Rattle.rules.specs.Implied.{implied_in, list_implied}
use Rattle.laws.specs.Tests.{T_and, T-leb, tests, bool-ext}
use Rattle.laws.specs.Fields.{got_same, ask-got, after-got, ask-yes, whole_is, after-head, length-value, over_fields-end}
use Rattle.laws.specs.JobFile.{known_is, place-late, place_same, added}
use Rattle.laws.specs.FileParts.{FieldsFrom, done, more, Fields, read_from, read_from-step, ask_field, read_from-field, read_file-parts, readable-fields}

-- "5 | comment | any bytes, none included"
abbrev pub comment : List ℕ → List ℕ
comment v = field 5 v

-- ---- two readings side by side, without a comment and with it

-- what both have come to: the same refusal, or the same file with header and limit, of which the second has counted one field more
pub data Alike : Answer JobFile → Answer JobFile → Type 0 where
  both-refuse : (q : ℕ) → Alike (refused q) (refused q)
  both_read : (f : JobFile) → 2 ≤ f.fields → Alike (got f) (got (counted f))

-- the same question of both
ask-alike : (b : Bool) (q : ℕ) {r s : Answer JobFile} → Alike r s → Alike (ask b q r) (ask b q s)
unfolding ask
ask-alike true q h = h
ask-alike false q h = both-refuse q

-- a choice in both, by the same test
choose-alike : (b : Bool) {r r' s s' : Answer JobFile} → Alike r s → Alike r' s' → Alike (choose b r r') (choose b s s')
unfolding choose
choose-alike true h h' = h
choose-alike false h h' = h'

-- an answer and what follows it, in both
after-alike : {r s : Answer JobFile} (g k : JobFile → Answer JobFile) → Alike r s → ((f : JobFile) → 2 ≤ f.fields → Alike (g f) (k (counted f)))
    → Alike (after r g) (after s k)
unfolding after
after-alike g k (both-refuse q) h = both-refuse q
after-alike g k (both_read f late) h = h f late

-- what a field adds to both
add-alike : (f : JobFile) (tag : ℕ) (v : List ℕ) → 2 ≤ f.fields → Alike (add_field f tag v) (add_field (counted f) tag v)
unfolding add_field add_need add_sockets counted with_limit with_sockets with_job with_need
add-alike f tag v late =
    choose-alike (eqb tag 2) (both_read (with_limit f (at v 0)) (omega arith))
    (choose-alike (eqb tag 3) (ask-alike _ 7 (both_read (with_job f (job_of v)) (omega arith)))
    (choose-alike (is_need tag) (ask-alike _ 8 (both_read (with_need f (need_of tag v)) (omega arith)))
    (choose-alike (eqb tag 9) (ask-alike _ 21 (both_read (with_sockets f (at v 0)) (omega arith))) (both_read (counted f) (omega arith)))))

-- question 5 does not tell numbers of fields from two up apart
late-place : (n tag : ℕ) → 2 ≤ n → in_place (suc n) tag ≡ in_place n tag
late-place n tag h = bool-ext _ _ (place_same (suc n) n tag (omega arith)) (place_same n (suc n) tag (omega arith))

-- the field at offset a is asked the same by both
field_alike : (bs : List ℕ) (f : JobFile) (a : ℕ) → 2 ≤ f.fields → Alike (read_field bs f a) (read_field bs (counted f) a)
unfolding read_field counted
field_alike bs f a late =
    rw (late-place f.fields (at bs a) late)
    (ask-alike _ 3 (ask-alike _ 4 (ask-alike _ 5 (ask-alike _ 6 (add-alike f (at bs a) (value bs a) late)))))

-- so are all fields from offset a on
fields-alike : (bs : List ℕ) (k a : ℕ) (f : JobFile) → 2 ≤ f.fields
    → Alike (over_fields (read_field bs) k bs a f) (over_fields (read_field bs) k bs a (counted f))
unfolding over_fields
fields-alike bs zero a f late = both_read f late
fields-alike bs (suc k) a f late =
    choose-alike (ltb a (length bs)) (after-alike _ _ (field_alike bs f a late) (fields-alike bs k (field_end bs a))) (both_read f late)

-- and question 10
complete-alike : (f : JobFile) → 2 ≤ f.fields → Alike (complete f) (complete (counted f))
unfolding complete counted
complete-alike f late =
    let two : leb 2 (suc f.fields) ≡ leb 2 f.fields = bool-ext _ _ (λ _. (T-leb 2 f.fields).1 late) (λ _. (T-leb 2 (suc f.fields)).1 (omega arith)) in
    rw two (ask-alike _ 10 (both_read f late))

-- the second reads what the first does, and a field more
pub alike-reads : {r s : Answer JobFile} → Alike r s → s ≡ after r (λ f. got (counted f))
unfolding after
alike-reads (both-refuse q) = refl
alike-reads (both_read f late) = refl

-- what does not ask for the number of fields follows both alike
alike-after : {A : Type 0} {r s : Answer JobFile} (g : JobFile → Answer A) → ((f : JobFile) → g (counted f) ≡ g f) → Alike r s → after s g ≡ after r g
unfolding after
alike-after g h (both-refuse q) = refl
alike-after g h (both_read f late) = h f

-- ---- the same answers

-- two files get the same from the planner (number, size and every byte of both buffers), from the check, and from the list of needs that follow from others
pub record SameAnswers (file other : List ℕ) : Type 0 where
  pub planned : (work table : List ℕ) → plan file work table ≡ plan other work table
  pub checked : (table : List ℕ) → check file table ≡ check other table
  pub listed : (list : List ℕ) → list_implied file list ≡ list_implied other list

-- files that are read as the same get the same answers
pub read-same-answers : (file other : List ℕ) → read_file file ≡ read_file other → SameAnswers file other
unfolding plan check list_implied implied_in
read-same-answers file other e = record { planned = λ work table. rw e refl; checked = λ table. rw e refl; listed = λ list. rw e refl }

-- what is planned looks at limit, most boards, jobs and needs alone
plan_table-counted : (f : JobFile) → plan_table (counted f) ≡ plan_table f
unfolding plan_table most_boards tabled table_of counted
plan_table-counted f =
    let n = length f.jobs in
    ap (λ (r : Answer Table). ask (circle_free n f.needs) 11 (ask (leb (width n f.needs f.limit) max_width) 12 r))
    (same (best n (runsb n f.needs (most_boards f)) f.limit))
  where
    same : (o : Option (List ℕ)) → tabled (counted f) o ≡ tabled f o
    same none = refl
    same (some t) = refl

-- files that are read alike get the same answers
pub same-answers : (bs zs : List ℕ) → Alike (read_file bs) (read_file zs) → SameAnswers zs bs
unfolding plan check list_implied implied_in most_boards counted
same-answers bs zs h = record {
  planned = λ work table. rw (alike-after plan_table plan_table-counted h) refl;
  checked = λ table. alike-after _ (λ f. refl) h;
  listed = λ list. rw (alike-after _ (λ f. refl) h) refl;
}

-- ---- the comment

-- behind header and limit it is a field that adds nothing
pub comment-adds : (f : JobFile) (v : List ℕ) → 2 ≤ f.fields → length v < 65536 → ask_field f 5 v ≡ got (counted f)
unfolding in_place length_ok field_row first_row field_rows content_ok is_need add_field choose
comment-adds f v late h =
    ask-yes (known_tag 5) 4 _ ((known_is 5).1 (inl (omega arith)))
    ∙ ask-yes (in_place f.fields 5) 5 _ (place_same 2 f.fields 5 (omega arith) tt)
    ∙ ask-yes (length_ok 5 (length v) && content_ok 5 v) 6 _ ((T_and (length_ok 5 (length v)) (content_ok 5 v)).1 (simp tests (omega arith), tt))

-- whole fields xs, and behind them other bytes, with a comment between them
module _ (xs ys v : List ℕ) (fields : Fields xs) (short : length (xs ++ (comment v ++ ys)) ≤ max_file) where
  -- it is no longer than its length can say
  sayable : length v < 65536
  unfolding field
  sayable = omega (arith, short, length-append xs (comment v ++ ys), length-append v ys)

  -- where the first part, if it is read, has header and limit, the file is read alike without the comment and with it
  parts-alike : ((p : JobFile) → read_from xs 0 no_fields ≡ got p → 2 ≤ p.fields) → Alike (read_file (xs ++ ys)) (read_file (xs ++ (comment v ++ ys)))
  unfolding after
  parts-alike late =
      let m = comment v in
      let fits : length (xs ++ ys) ≤ max_file = omega (arith, short, length-append xs ys, length-append xs (m ++ ys), length-append m ys) in
      rw (read_file-parts xs ys fields fits, read_file-parts xs (m ++ ys) fields short) (go (read_from xs 0 no_fields) late)
    where
      go : (r : Answer JobFile) → ((p : JobFile) → r ≡ got p → 2 ≤ p.fields)
          → Alike (after r (λ p. after (read_from ys 0 p) complete)) (after r (λ p. after (read_from (comment v ++ ys) 0 p) complete))
      go (refused q) h = both-refuse q
      go (got p) h =
          rw (read_from-field 5 v ys sayable p, comment-adds p v (h p refl) sayable)
          (after-alike complete complete (fields-alike ys (length ys) 0 p (h p refl)) complete-alike)

-- ---- a part of eight bytes or more has header and limit, if it is read

-- a field that is not refused is counted
one_more : (f e : JobFile) (tag : ℕ) (v : List ℕ) → add_field f tag v ≡ got e → e.fields ≡ suc f.fields
unfolding with_limit with_job with_need with_sockets counted
one_more f e tag v = added (λ x. x.fields ≡ suc f.fields) f e tag v refl refl (λ _. refl) refl refl

-- the fields read up to offset a are four bytes each, or two or more
abbrev Front : ℕ → JobFile → Type 0
Front a f = (a ≡ 4 * f.fields) ⊎ (2 ≤ f.fields)

-- a field more: the first is the header, of four bytes
field-front : (bs : List ℕ) (f e : JobFile) (a : ℕ) → Front a f → read_field bs f a ≡ got e → Front (field_end bs a) e
unfolding read_field
field-front bs f e a h q =
    let v = value bs a in
    let q3 = ask-got (whole bs a) 3 _ e q in
    let q5 = ask-got (in_place f.fields (at bs a)) 5 _ e (ask-got _ 4 _ e q3.1).1 in
    let q6 = ask-got (length_ok (at bs a) (length v) && content_ok (at bs a) v) 6 _ e q5.1 in
    let long = ((T_and (length_ok (at bs a) (length v)) (content_ok (at bs a) v)).0 q6.0).0 in
    go (length v) (length-value bs a q3.0) long q5.0 (one_more f e (at bs a) v q6.1) (ℕ_discrete f.fields 0) h
  where
    one_byte : (k : ℕ) → T (length_ok 1 k) → k ≡ 1
    one_byte k t = unfold length_ok field_row first_row field_rows choose in omega (arith, simp tests at t)

    first : T (in_place f.fields (at bs a)) → f.fields ≡ 0 → at bs a ≡ 1
    first t = unfold in_place in (simp tests at t).0

    go : (k : ℕ) → k ≡ field_end bs a - (a + 3) → T (length_ok (at bs a) k) → T (in_place f.fields (at bs a)) → e.fields ≡ suc f.fields
        → Dec (f.fields ≡ 0) → Front a f → Front (field_end bs a) e
    go k l long place c (yes z) (inl s) = let w = one_byte k (rw (first place z) at long) in inl (omega (arith, l, c, z, s, w, after-head bs a))
    go k l long place c (yes z) (inr s) = absurd (omega (arith, z, s))
    go k l long place c (no z) s = inr (omega (arith, c, z))

-- whole fields from offset a on
fields-front : (bs : List ℕ) (a : ℕ) → FieldsFrom bs a → (f e : JobFile) → Front a f → read_from bs a f ≡ got e → Front (length bs) e
fields-front bs _ (done a h) f e s q =
    let same = got_same f e (sym (over_fields-end (read_field bs) (length bs) bs a f (omega arith)) ∙ q) in
    subst (Front (length bs)) same (subst (λ (k : ℕ). Front k f) h s)
fields-front bs _ (more a w rest) f e s q =
    let u = after-got (read_field bs f a) (read_from bs (field_end bs a)) e (sym (read_from-step bs a f (omega (arith, (whole_is bs a).0 w))) ∙ q) in
    fields-front bs (field_end bs a) rest u.0 e (field-front bs f u.0 a s u.1) u.2

has-limit : (xs : List ℕ) → Fields xs → 8 ≤ length xs → (p : JobFile) → read_from xs 0 no_fields ≡ got p → 2 ≤ p.fields
unfolding no_fields
has-limit xs fields long p e = ⊎_elim (λ s. omega (arith, long, s)) (λ s. s) (fields-front xs 0 fields no_fields p (inl refl) e)

-- ---- "the others follow in any order"

-- a comment behind whole fields of eight bytes or more, which have header and limit if they are read, and before any bytes; the file may be readable or not
module _ (xs ys v : List ℕ) (fields : Fields xs) (long : 8 ≤ length xs) (short : length (xs ++ (comment v ++ ys)) ≤ max_file) where
  alike-within : Alike (read_file (xs ++ ys)) (read_file (xs ++ (comment v ++ ys)))
  alike-within = parts-alike xs ys v fields short (has-limit xs fields long)

  -- the file says what it says without the comment, with a field more, or is refused with the same number
  pub comment-within : read_file (xs ++ (comment v ++ ys)) ≡ after (read_file (xs ++ ys)) (λ f. got (counted f))
  comment-within = alike-reads alike-within

  -- and gets the same answers
  pub comment-within-same : SameAnswers (xs ++ (comment v ++ ys)) (xs ++ ys)
  comment-within-same = same-answers (xs ++ ys) (xs ++ (comment v ++ ys)) alike-within

-- a readable file with a comment behind whole fields, and before any bytes
module _ (xs ys v : List ℕ) (fields : Fields xs) (g : JobFile) (read : read_file (xs ++ (comment v ++ ys)) ≡ got g) where
  alike-without : Alike (read_file (xs ++ ys)) (read_file (xs ++ (comment v ++ ys)))
  unfolding after
  alike-without = parts-alike xs ys v fields short late
    where
      short : length (xs ++ (comment v ++ ys)) ≤ max_file
      short = unfold read_file in (T-leb (length (xs ++ (comment v ++ ys))) max_file).0 (ask-got _ 2 _ g read).0

      late : (p : JobFile) → read_from xs 0 no_fields ≡ got p → 2 ≤ p.fields
      late p e =
          let u = after-got (read_from (comment v ++ ys) 0 p) complete g (rw e at (sym (read_file-parts xs (comment v ++ ys) fields short) ∙ read)) in
          let w = after-got (ask_field p 5 v) (read_from ys 0) u.0 (sym (read_from-field 5 v ys (sayable xs ys v fields short) p) ∙ u.1) in
          place-late p.fields 5 (ask-got _ 5 _ w.0 (ask-got _ 4 _ w.0 w.1).1).0 (omega arith)

  -- without the comment it is readable, and says the same with a field less
  pub comment-left-out : (f : JobFile) × (read_file (xs ++ ys) ≡ got f) × (g ≡ counted f)
  comment-left-out =
      let w = after-got (read_file (xs ++ ys)) (λ f. got (counted f)) g (sym (alike-reads alike-without) ∙ read) in
      (w.0, w.1, sym (got_same (counted w.0) g w.2))

  -- and gets the same answers
  pub comment-left-out-same : SameAnswers (xs ++ (comment v ++ ys)) (xs ++ ys)
  comment-left-out-same = same-answers (xs ++ ys) (xs ++ (comment v ++ ys)) alike-without

-- ---- "a comment also last"

-- a readable file, and a comment at its end, of any bytes or none, as long as there is room
module _ (file v : List ℕ) (f : JobFile) (read : read_file file ≡ got f) (short : length (file ++ comment v) ≤ max_file) where
  pub alike-last : Alike (read_file file) (read_file (file ++ comment v))
  alike-last = rw (append-nil file, append-nil (comment v)) at (parts-alike file [] v (readable-fields file f read) (rw (append-nil (comment v)) short) late)
    where
      late : (p : JobFile) → read_from file 0 no_fields ≡ got p → 2 ≤ p.fields
      late p e = unfold read_file complete after in (simp tests at (ask-got _ 10 _ f (rw e at (ask-got (leb (length file) max_file) 2 _ f read).1)).0).0
