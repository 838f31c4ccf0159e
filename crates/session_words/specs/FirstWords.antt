-- Work words 0 to 4, which documents 01 and 02 lay out: word 0 holds h, words 1 and 2 hold u and v, word 3 the cells passed since start, word
-- 4 the kind of score, 0 linear and 1 Jaccard; under Jaccard words 1 and 2 hold f and g.
use Rattle.std.specs.Prelude.{ℕ}

-- h, the number of hits
abbrev pub hits_at : ℕ
hits_at = 0

-- the weights, or f and g
abbrev pub u_at : ℕ
u_at = 1

abbrev pub v_at : ℕ
v_at = 2

-- the cells passed since start
abbrev pub passed_at : ℕ
passed_at = 3

-- the kind of score
abbrev pub kind_at : ℕ
kind_at = 4
