-- A need given twice (document 02, request 6): "the file is planned as if the later field were a comment", and no call gives 9. Assumes nothing.
-- The definitions are in specs/RepeatedNeeds.antt; here are the theorems that depend on what a must-fail edit breaks.
use Rattle.std.specs.Prelude.{◌≡◌, ◌≢◌, ◌&&◌, ℕ, suc, ◌+◌, ◌-◌, ◌≤◌, ◌<◌, length, take, T, leb}
use Rattle.std.proofs.Math.Path.{sym, ap, ap₂}
use Rattle.std.proofs.Common.{◌∙◌, ⊎_elim, arith, take-append-drop, length-take-le, drop-drop}
use mathlib.Core.List.{List, ◌++◌}
use Rattle.std.proofs.Math.ListN.{drop, length-append}
use Rattle.rules.specs.Sizes.{max_file, pairs_size}
use Rattle.rules.specs.Basics.{choose, at}
use Rattle.rules.specs.Numbers.{Bytes}
use Rattle.rules.specs.Fields.{Answer, refused, got, ask, after, number_of, part, field, field_end, value}
use Rattle.rules.specs.Needs.{Need}
use Rattle.rules.specs.JobFile.{JobFile, known_tag, in_place, length_ok, content_ok, counted}
use Rattle.rules.specs.JobFile.{with_need, is_need, giver_of, taker_of, need_of, add_need, no_fields, complete, read_file}
use Rattle.rules.specs.Answers.{plan, check}
use Rattle.rules.specs.Implied.{implied_in, Listing, listed, list_implied}
use Rattle.laws.specs.Tests.{T-leb, T_and, by-test, choose_no}
use Rattle.laws.specs.Fields.{after_same, ask-yes, whole_is, after-head}
use Rattle.laws.specs.Needs.{insert-known}
use Rattle.laws.specs.JobFile.{need-known, need-late, need-content, add-need, place_same}
use Rattle.laws.specs.FileParts.{Fields, read_from, fields-cut, read_from-parts, ask_field}
use Rattle.laws.specs.FileParts.{read_from-field}
use Rattle.laws.specs.FieldsBut.{head-length, field_is}
use Rattle.laws.specs.Comments.{comment, comment-adds}
use Rattle.laws.proofs.Demands.{plan-refuses}
use Rattle.laws.specs.Refusals.{number_in, CheckNumber}
use Rattle.laws.proofs.Refusals.{implied-numbers, check-number}
use Rattle.laws.specs.RepeatedNeeds.{NeedField, giver_at, taker_at, Taken, taken}

-- ---- a need that was read

-- a field of the same pair adds nothing then, whatever its tag
repeat-adds : (tag : ℕ) (v : List ℕ) → T (is_need tag) → T (length_ok tag (length v)) → (f : JobFile) → Taken (giver_of tag v) (taker_of tag v) f
    → ask_field f tag v ≡ got (counted f)
unfolding in_place add_need choose with_need counted
repeat-adds tag v need long f t =
    ask-yes (known_tag tag) 4 _ (need-known tag need)
    ∙ ask-yes (in_place f.fields tag) 5 _ (place_same 2 f.fields tag (omega (arith, t.late)) ((T-leb 3 tag).1 (need-late tag need)))
    ∙ ask-yes (length_ok tag (length v) && content_ok tag v) 6 _ ((T_and (length_ok tag (length v)) (content_ok tag v)).1 (long, need-content tag v need))
    ∙ add-need f tag v need
    ∙ ask-yes _ 8 _ t.both-jobs
    ∙ ap (λ (ds : List Need). got (record { fields = suc f.fields; limit = f.limit; sockets = f.sockets; jobs = f.jobs; needs = ds }))
    (insert-known f.needs (need_of tag v) t.there)

-- ---- "the file is planned as if the later field were a comment"

-- whole fields xs: where they are read, the need that the tag and the value v say is among what they say; behind them that need again or a comment as
-- long, and any bytes
module _ (xs zs : List ℕ) (tag : ℕ) (v w : List ℕ) (fields : Fields xs) (need : T (is_need tag)) (long : T (length_ok tag (length v)))
    (taken : (f : JobFile) → read_from xs 0 no_fields ≡ got f → Taken (giver_of tag v) (taker_of tag v) f) (short : length v < 65536)
    (as_long : length w ≡ length v) where
  -- both fields say the same
  behind-same : (f : JobFile) → Taken (giver_of tag v) (taker_of tag v) f → read_from (field tag v ++ zs) 0 f ≡ read_from (comment w ++ zs) 0 f
  behind-same f t =
      read_from-field tag v zs short f
      ∙ ap (λ (r : Answer JobFile). after r (read_from zs 0)) (repeat-adds tag v need long f t ∙ sym (comment-adds f w t.late (omega arith)))
      ∙ sym (read_from-field 5 w zs (omega arith) f)

  -- so do all fields
  fields-same : read_from (xs ++ (field tag v ++ zs)) 0 no_fields ≡ read_from (xs ++ (comment w ++ zs)) 0 no_fields
  fields-same =
      read_from-parts xs (field tag v ++ zs) fields no_fields
      ∙ after_same (read_from xs 0 no_fields) _ _ (λ f e. behind-same f (taken f e))
      ∙ sym (read_from-parts xs (comment w ++ zs) fields no_fields)

  -- both are as long
  length-same : length (xs ++ (field tag v ++ zs)) ≡ length (xs ++ (comment w ++ zs))
  unfolding field
  length-same = omega (arith, as_long, length-append xs (field tag v ++ zs), length-append xs (comment w ++ zs), length-append v zs, length-append w zs)

  parts_same : read_file (xs ++ (field tag v ++ zs)) ≡ read_file (xs ++ (comment w ++ zs))
  unfolding read_file
  parts_same = ap₂ (λ (n : ℕ) (r : Answer JobFile). ask (leb n max_file) 2 (after r complete)) length-same fields-same

-- a file with needs at the offsets a and b that say the same pair, and a comment as long as the later
module _ (bs : List ℕ) (bytes : Bytes bs) (a b : ℕ) (first : NeedField bs a) (again : NeedField bs b) (later : a < b)
    (giver : giver_at bs b ≡ giver_at bs a) (taker : taker_at bs b ≡ taker_at bs a)
    (w : List ℕ) (as_long : length w ≡ length (value bs b)) where
  -- the file with the comment in its place
  abbrev pub commented : List ℕ
  commented = take b bs ++ (comment w ++ drop (field_end bs b) bs)

  -- the bytes before the later need, and those behind it
  abbrev xs : List ℕ
  xs = take b bs

  abbrev zs : List ℕ
  zs = drop (field_end bs b) bs

  -- from the later need on it is that field, and what is behind it
  rest-is : drop b bs ≡ field (at bs b) (value bs b) ++ zs
  unfolding part
  rest-is =
      let end : b + (field_end bs b - b) ≡ field_end bs b = omega (arith, after-head bs b) in
      sym (take-append-drop (field_end bs b - b) (drop b bs))
      ∙ ap₂ (λ (l r : List ℕ). l ++ r) (field_is bs bytes b again.is_whole)
      (drop-drop (field_end bs b - b) b bs ∙ ap (λ (n : ℕ). drop n bs) end)

  -- so the file is these three
  file-is : bs ≡ xs ++ (field (at bs b) (value bs b) ++ zs)
  file-is = sym (take-append-drop b bs) ∙ ap (λ (l : List ℕ). xs ++ l) rest-is

  -- the part before the later need
  size : length xs ≡ b
  size = length-take-le b bs (omega (arith, (whole_is bs b).0 again.is_whole))

  fields : Fields xs
  fields = rw size (fields-cut xs (drop b bs) b 0 (rw (take-append-drop b bs) again.before) (omega (arith, size)))

  -- the file says the same, or is refused with the same number
  pub repeat_read : read_file bs ≡ read_file commented
  repeat_read = ap read_file file-is
      ∙ parts_same xs zs (at bs b) (value bs b) w fields again.tag_is again.long
      (taken bs bytes a b first again later giver taker) (head-length bs bytes b again.is_whole).0 as_long

-- ---- "Number 9 is never given any more"

-- by the planner, whatever the file and the buffers
pub plan-never-9 : (file work table : List ℕ) → (plan file work table).number ≢ 9
plan-never-9 file work table e = ⊎_elim (λ w. w.1 e) (λ w. omega (arith, w, e)) (plan-refuses file work table)

-- by the check, whatever file and table
pub check-never-9 : (file table : List ℕ) → number_of (check file table) ≢ 9
check-never-9 file table e =
    ⊎_elim (λ z. omega (arith, z, e)) (⊎_elim (⊎_elim (λ w. w.1 e) (λ w. omega (arith, w, e))) (λ w. omega (arith, w, e)))
    (number_in CheckNumber (check file table) (check-number file table))

-- by the list of needs that follow from others
pub list-never-9 : (file list : List ℕ) → number_of (list_implied file list).answer ≢ 9
unfolding list_implied number_of
list-never-9 file list = go (by-test (leb pairs_size (length list)) (T-leb pairs_size (length list)))
  where
    go : Dec (pairs_size ≤ length list) → number_of (list_implied file list).answer ≢ 9
    go (yes room) e = ⊎_elim (λ z. omega (arith, z, e)) (⊎_elim (λ w. w.1 e) (λ w. omega (arith, w, e))) (implied-numbers file list room)
    go (no short) e =
        let none : Listing = record { answer = refused 1; list = list } in
        let one = choose_no (leb pairs_size (length list)) (listed (implied_in file) list) none (λ t. short ((T-leb pairs_size (length list)).0 t)) in
        omega (arith, ap (λ (x : Listing). number_of x.answer) one, e)
