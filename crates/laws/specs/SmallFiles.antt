-- The job file of a small gate (document 02, request 14): its length; it is read as the jobs and needs that it was written from; it is a byte string;
-- the slots of the planner's table for it are the fewest. Assumes nothing.
use Rattle.std.specs.Prelude.{◌≡◌, refl, ◌≢◌, ◌&&◌, ℕ, zero, suc, ◌+◌, ◌-◌, ◌*◌, ◌/◌, ◌%◌, ◌≤◌, ◌<◌, length, T, leb, ltb, pos}
use Rattle.std.proofs.Common.{sym, ap, ap₂, subst, ◌∙◌, arith, mul-le-mul, length-append}
use mathlib.Core.List.{List, [], ◌∷◌, ◌++◌, append_assoc, append-nil, Memᴰ}
use Rattle.std.proofs.lemmas.List.{length-map}
use Rattle.rules.specs.Sizes.{max_jobs, max_boards, max_file}
use Rattle.rules.specs.Basics.{choose, all, any, range, tabulate, joined, Distinct}
use Rattle.rules.specs.Numbers.{Bytes, word, signed}
use Rattle.rules.specs.Fields.{Answer, got, after, field}
use Rattle.rules.specs.Needs.{Need, Gives, NeedsIn}
use Rattle.rules.specs.JobFile.{field_rows, first_row, field_row, Job, JobFile, most_boards, name_byte, known_tag, in_place, length_ok, content_ok}
use Rattle.rules.specs.JobFile.{counted, with_limit, with_job, with_need, job_of, is_job, add_need, is_need, giver_of, taker_of, add_field, no_fields, complete, read_file}
use Rattle.rules.specs.Answers.{plan_table}
use Rattle.rules.specs.SmallGates.{bit, need_bit, pairs, needs_of, gateb, gates, job_field, need_field, gate_file}
use Rattle.rules.specs.SmallGates.{fewest, slots_in, planned_slots}
use Rattle.laws.specs.Tests.{T-leb, tests}
use Rattle.laws.specs.Lists.{filter-mem⁻¹, length-filter, length-tabulate, tabulate-last}
use Rattle.laws.specs.Counting.{length-range, distinct-before}
use Rattle.laws.specs.Writing.{length-joined}
use Rattle.laws.specs.Numbers.{bytes-join}
use Rattle.laws.specs.Fields.{ask-yes, bytes-field, over_fields-end}
use Rattle.laws.specs.JobFile.{place_same, readable}
use Rattle.laws.specs.Needs.{insert-new}
use Rattle.laws.specs.FileParts.{read_from, read_from-field}
use Rattle.laws.specs.SmallGates.{needs-are, needs-of-in, distinct-needs, no_self}
use Rattle.laws.specs.Fewest.{every-planned}

-- ---- what the file says

-- the most jobs of such a file: their names are the bytes from 97 up, and a byte of a name is at most 126
abbrev pub max_named : ℕ
max_named = 30

-- job i: level 0, and one byte for its name
abbrev pub gate_job : ℕ → Job
gate_job i = record { level = pos 0; name = (97 + i) ∷ [] }

-- what has been read with a limit, c jobs and needs: each is a field, behind the header
abbrev pub read_so_far : ℕ → ℕ → List Need → JobFile
read_so_far limit c needs = record { fields = 2 + c + length needs; limit = limit; sockets = 0; jobs = tabulate gate_job c 0; needs = needs }

-- the whole: limit n, n jobs, and needs
unfoldable pub gate_says : ℕ → List Need → JobFile
gate_says n needs = read_so_far n n needs

-- ---- one field

-- a field in front, with a yes to questions 4 to 6, that makes g of f: what is behind it is read with g
field-read : (tag : ℕ) (v zs : List ℕ) (f g : JobFile) → length v < 65536 → T (known_tag tag) → T (in_place f.fields tag)
    → T (length_ok tag (length v) && content_ok tag v) → add_field f tag v ≡ got g → read_from (field tag v ++ zs) 0 f ≡ read_from zs 0 g
unfolding after
field-read tag v zs f g short q4 q5 q6 adds =
    read_from-field tag v zs short f
    ∙ ap (λ (r : Answer JobFile). after r (read_from zs 0))
    (ask-yes (known_tag tag) 4 _ q4 ∙ ask-yes (in_place f.fields tag) 5 _ q5 ∙ ask-yes (length_ok tag (length v) && content_ok tag v) 6 _ q6 ∙ adds)

-- the header
header_read : (zs : List ℕ) → read_from (field 1 (1 ∷ []) ++ zs) 0 no_fields ≡ read_from zs 0 (counted no_fields)
unfolding known_tag in_place length_ok content_ok field_row first_row field_rows any choose no_fields is_need add_field
header_read zs = field-read 1 (1 ∷ []) zs no_fields (counted no_fields) (omega arith) tt tt tt refl

-- the limit
limit-read : (n : ℕ) (zs : List ℕ) → 1 ≤ n → n ≤ max_named → read_from (field 2 (n ∷ []) ++ zs) 0 (counted no_fields) ≡ read_from zs 0 (read_so_far n 0 [])
unfolding known_tag in_place length_ok content_ok field_row first_row field_rows any choose no_fields counted add_field with_limit tabulate
limit-read n zs some-job few =
    field-read 2 (n ∷ []) zs (counted no_fields) (read_so_far n 0 []) (omega arith) tt tt (simp tests (omega arith)) refl

-- job i behind i jobs
job_read : (limit i : ℕ) (zs : List ℕ) → i < max_named → read_from (job_field i ++ zs) 0 (read_so_far limit i []) ≡ read_from zs 0 (read_so_far limit (suc i) [])
unfolding job_field known_tag length_ok content_ok field_row first_row field_rows any all name_byte choose add_field with_job job_of word signed
job_read limit i zs h =
    field-read 3 (0 ∷ 0 ∷ (97 + i) ∷ []) zs (read_so_far limit i []) (read_so_far limit (suc i) []) (omega arith) tt in_place_lem (simp tests (omega arith)) adds
  where
    in_place_lem : T (in_place (2 + i + 0) 3)
    in_place_lem = place_same 2 (2 + i + 0) 3 (omega arith) (unfold in_place choose in tt)

    adds : add_field (read_so_far limit i []) 3 (0 ∷ 0 ∷ (97 + i) ∷ []) ≡ got (read_so_far limit (suc i) [])
    adds =
        ask-yes (ltb (length (tabulate gate_job i 0)) max_jobs) 7 _ (simp tests (omega (arith, length-tabulate gate_job i 0)))
        ∙ ap₂ (λ (k : ℕ) (js : List Job). got (record { fields = k; limit = limit; sockets = 0; jobs = js; needs = [] })) (omega arith)
        (sym (tabulate-last gate_job i))

-- c jobs behind i jobs
jobs-read : (limit c i : ℕ) (zs : List ℕ) → i + c ≤ max_named
    → read_from (joined job_field (range c i) ++ zs) 0 (read_so_far limit i []) ≡ read_from zs 0 (read_so_far limit (i + c) [])
unfolding joined range
jobs-read limit zero i zs h = ap (λ (n : ℕ). read_from zs 0 (read_so_far limit n [])) (omega arith)
jobs-read limit (suc c) i zs h =
    ap (λ (bs : List ℕ). read_from bs 0 (read_so_far limit i [])) (append_assoc (job_field i) (joined job_field (range c (suc i))) zs)
    ∙ job_read limit i (joined job_field (range c (suc i)) ++ zs) (omega arith)
    ∙ jobs-read limit c (suc i) zs (omega arith)
    ∙ ap (λ (n : ℕ). read_from zs 0 (read_so_far limit n [])) (omega arith)

-- ---- the needs

-- a need between two different ones of the n jobs, behind needs that it is not among
need-read : (n : ℕ) (es : List Need) (g k : ℕ) (zs : List ℕ) → g < n → k < n → g ≢ k → ¬ (Gives es g k)
    → read_from (need_field (g, k) ++ zs) 0 (read_so_far n n es) ≡ read_from zs 0 (read_so_far n n (es ++ (g, k) ∷ []))
unfolding need_field known_tag length_ok content_ok field_row first_row field_rows any choose is_need giver_of taker_of add_field add_need is_job with_need
need-read n es g k zs g-in k-in apart new =
    field-read 4 (suc g ∷ suc k ∷ []) zs (read_so_far n n es) (read_so_far n n (es ++ (g, k) ∷ [])) (omega arith) tt in_place_lem tt adds
  where
    in_place_lem : T (in_place (2 + n + length es) 4)
    in_place_lem = place_same 2 (2 + n + length es) 4 (omega arith) (unfold in_place choose in tt)

    adds : add_field (read_so_far n n es) 4 (suc g ∷ suc k ∷ []) ≡ got (read_so_far n n (es ++ (g, k) ∷ []))
    adds =
        let same-g : suc g - 1 ≡ g = omega arith in
        let same-k : suc k - 1 ≡ k = omega arith in
        let size = length-tabulate gate_job n 0 in
        rw (same-g, same-k) (ask-yes _ 8 _ (simp tests (omega arith, (omega arith, λ e. apart (omega arith))))
        ∙ ap₂ (λ (m : ℕ) (ds : List Need). got (record { fields = m; limit = n; sockets = 0; jobs = tabulate gate_job n 0; needs = ds }))
        (omega (arith, length-append es ((g, k) ∷ []))) (insert-new es (g, k) new))

-- needs between two different ones of the n jobs, behind others; none of all these twice
needs-read : (n : ℕ) (ds es : List Need) → ((g k : ℕ) → Gives ds g k → (g < n) × (k < n) × (g ≢ k)) → Distinct (es ++ ds)
    → read_from (joined need_field ds) 0 (read_so_far n n es) ≡ got (read_so_far n n (es ++ ds))
unfolding joined
needs-read n [] es between u = over_fields-end _ 0 [] 0 (read_so_far n n es) (omega arith) ∙ ap (λ (l : List Need). got (read_so_far n n l)) (sym (append-nil es))
needs-read n (d ∷ ds) es between u =
    let w = between d.0 d.1 (Memᴰ.head refl) in
    let moved = append_assoc es (d ∷ []) ds in
    need-read n es d.0 d.1 (joined need_field ds) w.0 w.1 w.2 (distinct-before es d ds u)
    ∙ needs-read n ds (es ++ d ∷ []) (λ g k m. between g k (Memᴰ.tail m)) (rw moved u)
    ∙ ap (λ (l : List Need). got (read_so_far n n l)) moved

-- ---- how long it is

-- a need takes five bytes
pub length-needs : (ds : List Need) → length (joined need_field ds) ≡ 5 * length ds
unfolding need_field field
length-needs ds = length-joined need_field 5 (λ d. refl) ds

-- a job takes six
pub length-jobs : (c i : ℕ) → length (joined job_field (range c i)) ≡ 6 * c
unfolding job_field field
length-jobs c i = length-joined job_field 6 (λ j. refl) (range c i) ∙ ap (6 *◌) (length-range c i)

-- header and limit take four each
pub gate-file-length : (n m : ℕ) → length (gate_file n m) ≡ 8 + 6 * n + 5 * length (needs_of n m)
unfolding gate_file field
gate-file-length n m = omega (arith, length-append (joined job_field (range n 0)) (joined need_field (needs_of n m)), length-jobs n 0, length-needs (needs_of n m))

-- n jobs have at most n * n needs
pub needs-at-most : (n m : ℕ) → length (needs_of n m) ≤ n * n
unfolding needs_of pairs
needs-at-most n m =
    omega (arith, length-filter (λ d. bit m (need_bit n d)) (pairs n), length-map {B = Need} (range (n * n) 0) (λ j. (j / n, j % n)), length-range (n * n) 0)

-- so the file is not too long
pub gate-file-short : (n m : ℕ) → n ≤ max_named → length (gate_file n m) ≤ max_file
gate-file-short n m few = omega (arith, gate-file-length n m, needs-at-most n m, mul-le-mul few few)

-- ---- the file of a number

-- header, limit and at least one job are there
nothing-missing : (n : ℕ) (ds : List Need) → 1 ≤ n → complete (read_so_far n n ds) ≡ got (read_so_far n n ds)
unfolding complete
nothing-missing n ds some-job = ask-yes _ 10 _ (simp tests (omega arith, omega (arith, length-tabulate gate_job n 0)))

-- it is read as the n jobs and the needs of m, where those have no circle
pub gate-file-read : (n m : ℕ) → 1 ≤ n → n ≤ max_named → T (gateb n m) → read_file (gate_file n m) ≡ got (gate_says n (needs_of n m))
unfolding read_file gate_file gate_says after
gate-file-read n m some-job few free =
    ask-yes (leb (length (gate_file n m)) max_file) 2 _ ((T-leb (length (gate_file n m)) max_file).1 (gate-file-short n m few))
    ∙ ap (λ (r : Answer JobFile). after r complete) all-fields
    ∙ nothing-missing n (needs_of n m) some-job
  where
    ds : List Need
    ds = needs_of n m

    between : (g k : ℕ) → Gives ds g k → (g < n) × (k < n) × (g ≢ k)
    between g k a =
        let w = (needs-are n m g k).0 a in
        (w.0, w.1, λ e. no_self n m free g w.0 (subst (λ (j : ℕ). T (bit m (need_bit n (g, j)))) (sym e) w.2))

    all-fields : read_from (gate_file n m) 0 no_fields ≡ got (read_so_far n n ds)
    all-fields =
        header_read (field 2 (n ∷ []) ++ (joined job_field (range n 0) ++ joined need_field ds))
        ∙ limit-read n (joined job_field (range n 0) ++ joined need_field ds) some-job few
        ∙ jobs-read n n 0 (joined need_field ds) (omega arith)
        ∙ ap (λ (c : ℕ). read_from (joined need_field ds) 0 (read_so_far n c [])) (omega arith)
        ∙ needs-read n ds [] between (distinct-needs n m)

-- ---- it is a byte string

-- the field of a job is a byte string
job-bytes : (i : ℕ) → i < max_named → Bytes (job_field i)
unfolding job_field
job-bytes i h = bytes-field 3 (0 ∷ 0 ∷ (97 + i) ∷ []) (omega arith) (omega arith) (omega arith, (omega arith, (omega arith, tt)))

-- and those of c jobs from i up
jobs-bytes : (c i : ℕ) → i + c ≤ max_named → Bytes (joined job_field (range c i))
unfolding joined range
jobs-bytes zero i h = tt
jobs-bytes (suc c) i h = bytes-join (job_field i) (joined job_field (range c (suc i))) (job-bytes i (omega arith)) (jobs-bytes c (suc i) (omega arith))

-- so is the field of a need between n jobs
need-bytes : (n : ℕ) (d : Need) → n ≤ max_named → d.0 < n → d.1 < n → Bytes (need_field d)
unfolding need_field
need-bytes n d few g-in k-in = bytes-field 4 (suc d.0 ∷ suc d.1 ∷ []) (omega arith) (omega arith) (omega arith, (omega arith, tt))

-- and those of needs between them
needs-bytes : (n : ℕ) (ds : List Need) → n ≤ max_named → NeedsIn n ds → Bytes (joined need_field ds)
unfolding joined
needs-bytes n [] few inside = tt
needs-bytes n (d ∷ ds) few inside =
    let w = inside d.0 d.1 (Memᴰ.head refl) in
    bytes-join (need_field d) (joined need_field ds) (need-bytes n d few w.0 w.1) (needs-bytes n ds few (λ g k m. inside g k (Memᴰ.tail m)))

-- the file of a number is a byte string
pub gate-file-bytes : (n m : ℕ) → n ≤ max_named → Bytes (gate_file n m)
unfolding gate_file
gate-file-bytes n m few =
    bytes-join (field 1 (1 ∷ [])) _ (bytes-field 1 (1 ∷ []) (omega arith) (omega arith) (omega arith, tt))
    (bytes-join (field 2 (n ∷ [])) _ (bytes-field 2 (n ∷ []) (omega arith) (omega arith) (omega arith, tt))
    (bytes-join (joined job_field (range n 0)) _ (jobs-bytes n 0 (omega arith)) (needs-bytes n (needs_of n m) few (needs-of-in n m))))

-- ---- "the planner with limit n must give the same"

-- of each number of the list: the slots of the planner's table for its file are the fewest; that these are a number says `fewest-some`
pub planner-same : (n m : ℕ) → 1 ≤ n → n ≤ max_boards → Memᴰ m (gates n) → planned_slots (gate_file n m) ≡ fewest n (needs_of n m)
unfolding gates planned_slots slots_in after gate_says most_boards choose
planner-same n m some-job few listed =
    let f = gate_says n (needs_of n m) in
    let free = (filter-mem⁻¹ (gateb n) _ m listed).1 in
    let read = gate-file-read n m some-job (omega arith) free in
    let ok = readable (gate_file n m) (gate-file-bytes n m (omega arith)) f read in
    let w = every-planned n m listed f ok (length-tabulate gate_job n 0) (λ g k. (λ a. a, λ a. a)) refl few in
    ap (λ (r : Answer JobFile). slots_in (after r plan_table)) read ∙ ap slots_in w.1 ∙ sym w.2
