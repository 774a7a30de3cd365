-- The sizes that documents 01 and 02 set, each in one place. Assumes nothing.
use Rattle.std.specs.Prelude.{ℕ}

-- "Up to 400 jobs are allowed" (question 7; document 02, request 8)
abbrev pub max_jobs : ℕ
max_jobs = 400

-- "1 to 64: most slots allowed" (the limit field)
abbrev pub max_limit : ℕ
max_limit = 64

-- "at most eight" boards (question 16)
abbrev pub max_boards : ℕ
max_boards = 8

-- "Is the width at most 8?" (question 12)
abbrev pub max_width : ℕ
max_width = 8

-- "files up to 49,152 bytes" (question 2; document 02, request 8)
abbrev pub max_file : ℕ
max_file = 49152

-- the working buffer (question 1)
abbrev pub work_size : ℕ
work_size = 65536

-- "Question 1 asks for 7,606 table bytes" (document 02, request 8)
abbrev pub table_size : ℕ
table_size = 7606

-- two entries for each need that a file has room for: a need takes five bytes or more (document 02, request 5; law `list-fits`)
abbrev pub pairs_size : ℕ
pairs_size = 19660

-- two bytes for the state number of each slot that a table may have (document 02, request 11)
abbrev pub states_size : ℕ
states_size = 128
