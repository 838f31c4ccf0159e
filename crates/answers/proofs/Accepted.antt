-- Number 0 tells that a call is accepted: its reply is then the value alone, and load's is k, w and the value.
use Prim.Native.Nat.{ℕ, suc, ◌≤◌}
use native.Mathlib.Omega.{arith}
use mathlib.Core.Bool.{Bool, true, false, cond, not, ◌||◌}
use mathlib.Core.Path.{◌≡◌, refl}
use mathlib.Core.List.{List, [], ◌∷◌}
use lib.Dec.{leb, ltb, eqb}
use lib.ListN.{length}
use Rattle.base.specs.Replies.{Reply, accepted, refused}
use Rattle.base.specs.Limits.{k_limit, w_limit, letter_limit, outside, text_limit, pattern_limit, hit_limit, work_words}
use Rattle.kmers.specs.Kmers.{Entry, entries}
use Rattle.minimizers.specs.Sketch.{sketch}
use Rattle.sketch.specs.Replies.{checked_letters, room_for, sketch_reply}
use Rattle.strike.specs.Strike.{strike, strike_reply}
use Rattle.strands.specs.Complement.{complement_reply}
use Rattle.store.specs.Save.{stored, storable, save_reply}
use Rattle.store.specs.Words.{is_header, header_k}
use Rattle.store.specs.Load.{Judged, good, bad, with_entry, judge_from, judge, store_k, store_w, load_room, judged_reply, load_reply}
use Rattle.store.proofs.Judging.{Way, run_out, last, more, miscount, first, half, second, entry, way}
use Rattle.mappings.specs.declared.Scoring.{Scoring}
use Rattle.mappings.specs.declared.Scoring.TheVariants.{Linear, Jaccard}
use Rattle.mappings.specs.Score.{Task}
use Rattle.mappings.specs.Cells.{hit_count}
use Rattle.session_start.specs.Start.{bad_weights, bad_fraction, judged, start_reply}
use Rattle.answers.specs.Numbers.{number_of, value_of}

pub record Tells (r : Reply) : Type 0 where
  pub tells : number_of r ≡ 0 → r ≡ accepted (value_of r ∷ [])

value_tells : (n : ℕ) → Tells (accepted (n ∷ []))
value_tells n = record { tells = λ e. refl }

-- a refusal's number is not 0
past : (b : Bool) (n : ℕ) (values : List ℕ) {r : Reply} → Tells r → Tells (cond b (refused (suc n) values) r)
past true n values t = record { tells = λ e. absurd (omega (arith, e)) }
past false n values t = t

room_tells : (n code_room position_room : ℕ) → Tells (room_for n code_room position_room)
unfolding room_for
room_tells n code_room position_room = past (ltb code_room n || ltb position_room n) 3 (n ∷ []) (value_tells n)

pub sketch_tells : (k w : ℕ) (letters : List ℕ) (code_room position_room : ℕ) → Tells (sketch_reply k w letters code_room position_room)
unfolding sketch_reply checked_letters
sketch_tells k w letters code_room position_room =
    past (outside 1 k_limit k) 0 []
    (past (outside 1 w_limit w) 1 []
    (past (ltb letter_limit (length letters)) 2 []
    (room_tells (length (sketch k w letters)) code_room position_room)))

pub strike_tells : (deciding cs ps : List ℕ) (c code_room position_room : ℕ) → Tells (strike_reply deciding cs ps c code_room position_room)
unfolding strike_reply
strike_tells deciding cs ps c code_room position_room =
    past (not (eqb (length cs) (length ps))) 4 []
    (past (ltb text_limit (length deciding)) 7 []
    (past (outside 1 text_limit c) 5 []
    (room_tells (length (strike deciding c (entries cs ps))) code_room position_room)))

pub complement_tells : (read : List ℕ) (room : ℕ) → Tells (complement_reply read room)
unfolding complement_reply
complement_tells read room = go (leb (length read) room)
  where
    go : (b : Bool) → Tells (cond b (accepted (length read ∷ [])) (refused 4 (length read ∷ [])))
    go true = value_tells (length read)
    go false = past true 3 (length read ∷ []) (value_tells (length read))

pub save_tells : (k w : ℕ) (cs ps : List ℕ) (room : ℕ) → Tells (save_reply k w cs ps room)
unfolding save_reply
save_tells k w cs ps room =
    past (outside 1 k_limit k) 0 []
    (past (outside 1 w_limit w) 1 []
    (past (not (eqb (length cs) (length ps)) || not (storable k 0 (entries cs ps))) 4 []
    (past (ltb room (length (stored k w (entries cs ps)))) 3 (length (stored k w (entries cs ps)) ∷ [])
    (value_tells (length (stored k w (entries cs ps)))))))

judged_tells : (scoring : Scoring) {next : Reply} → Tells next → Tells (judged scoring next)
judged_tells (Linear u v threshold) t = past (bad_weights u v) 6 [] t
judged_tells (Jaccard f g) t = past (bad_fraction f g) 16 [] t

pub start_tells : (task : Task) (lent : ℕ) → Tells (start_reply task lent)
unfolding start_reply
start_tells task lent =
    judged_tells task.scoring
    (past (ltb text_limit (length task.text)) 7 []
    (past (eqb (length task.pattern) 0 || ltb pattern_limit (length task.pattern)) 8 []
    (past (ltb lent work_words) 9 []
    (past (ltb hit_limit (hit_count task)) 10 (hit_count task ∷ [])
    (value_tells (hit_count task))))))

-- a bad word's number is not 0
abbrev Numbered : Judged → Type 0
Numbered (good es) = Unit {0}
Numbered (bad number index) = 1 ≤ number

numbered_with : (e : Entry) (j : Judged) → Numbered j → Numbered (with_entry e j)
numbered_with e (good es) h = h
numbered_with e (bad number index) h = h

way_numbered : {k index n low : ℕ} {ws : List ℕ} {j : Judged} → Way k index n low ws j → Numbered j
way_numbered run_out = omega arith
way_numbered (last h e) = tt
way_numbered (more h e) = omega arith
way_numbered (miscount h e) = omega arith
way_numbered (first h c) = omega arith
way_numbered (half c) = omega arith
way_numbered (second c p) = omega arith
way_numbered (entry {j = j} c p w) = numbered_with _ j (way_numbered w)

judge_numbered : (words : List ℕ) → Numbered (judge words)
unfolding judge
judge_numbered [] = omega arith
judge_numbered (x ∷ rest) = go (is_header x) (way_numbered (way (header_k x) 1 0 0 rest))
  where
    go : (b : Bool) → Numbered (judge_from (header_k x) 1 0 0 rest) → Numbered (cond b (judge_from (header_k x) 1 0 0 rest) (bad 12 0))
    go true h = h
    go false h = omega arith

pub load_tells : (words : List ℕ) (code_room position_room : ℕ) → number_of (load_reply words code_room position_room) ≡ 0
    → load_reply words code_room position_room ≡ accepted (store_k words ∷ store_w words ∷ value_of (load_reply words code_room position_room) ∷ [])
unfolding load_reply load_room
load_tells words code_room position_room = go (judge words) (judge_numbered words)
  where
    room : (b : Bool) (n : ℕ) → number_of (cond b (refused 4 (n ∷ [])) (accepted (store_k words ∷ store_w words ∷ n ∷ []))) ≡ 0
        → cond b (refused 4 (n ∷ [])) (accepted (store_k words ∷ store_w words ∷ n ∷ []))
        ≡ accepted (store_k words ∷ store_w words ∷ value_of (cond b (refused 4 (n ∷ [])) (accepted (store_k words ∷ store_w words ∷ n ∷ []))) ∷ [])
    room true n e = absurd (omega (arith, e))
    room false n e = refl

    go : (j : Judged) → Numbered j → number_of (judged_reply (store_k words) (store_w words) j code_room position_room) ≡ 0
        → judged_reply (store_k words) (store_w words) j code_room position_room
        ≡ accepted (store_k words ∷ store_w words ∷ value_of (judged_reply (store_k words) (store_w words) j code_room position_room) ∷ [])
    go (bad number index) h e = absurd (omega (arith, h, e))
    go (good es) h e = room (ltb code_room (length es) || ltb position_room (length es)) (length es) e
