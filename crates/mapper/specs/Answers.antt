-- What step's answer is in document 01: its case, number and values.
use Rattle.std.specs.Prelude.{Result, Ok, Err}
use Rattle.base.specs.Refusals.{refusal_number}
use Rattle.base.specs.declared.refusal.Refusal.{Refusal}
use Rattle.mappings.specs.Rule.{Answer, found, finished, spent, refused}
use Rattle.mapper.specs.declared.answer.Stepped.{Stepped}
use Rattle.mapper.specs.declared.answer.Stepped.TheVariants.{Found, Finished, Spent}

-- found with a, b, score, m and the cells passed; finished and spent with the cells passed
abbrev pub stepped_answer : Stepped → Answer
stepped_answer (Found a b score m cells) = found (record { a = a; b = b; score = score; m = m }) cells
stepped_answer (Finished cells) = finished cells
stepped_answer (Spent cells) = spent cells

-- that; or refused, with the number of the refusal
abbrev pub answer_of : Result Stepped Refusal → Answer
answer_of (Ok stepped) = stepped_answer stepped
answer_of (Err refusal) = refused (refusal_number refusal)
