-- What the marks are after a call with as many of them as words.
use Rattle.std.proofs.Common.{◌≡◌, ℕ, ◌≤◌, List, ◌++◌, length, ap, ◌∙◌, append-nil, arith}
use lib.ListN.{length-map, drop_of_length-le}
use borrow.Author.Tests.{le-leb}
use Rattle.base.specs.Limits.{text_limit}
use Rattle.marking.specs.Marks.{mark_of, marks_of, markable, marked}

-- as many marks as words become the marks of the words
pub mark_exact : (deciding : List ℕ) (limit : ℕ) (words marks : List ℕ) → length deciding ≤ text_limit → length marks ≡ length words
    → marked deciding limit words marks ≡ marks_of deciding limit words
unfolding marked markable
mark_exact deciding limit words marks h e =
    let l : length marks ≤ length (marks_of deciding limit words) = rw (length-map words (mark_of deciding limit)) (omega arith) in
    rw (le-leb (length deciding) text_limit h, le-leb (length words) (length marks) (omega arith))
    (ap (λ (k : List ℕ). marks_of deciding limit words ++ k) (drop_of_length-le marks l) ∙ append-nil (marks_of deciding limit words))
