-- The pieces make up the output: the first one that `begin` writes is the front of it, and those that `fill` writes follow, until nothing is left.
use Prim.Native.Nat.{ℕ, ◌+◌, ◌≤◌, zero-le}
use native.Mathlib.Omega.{arith}
use native.Mathlib.Nat.{zero-add}
use mathlib.Core.Path.{◌≡◌, refl, sym, ap, ap₂, ◌∙◌, subst}
use mathlib.Core.Logic.{inl, inr}
use mathlib.Core.List.{List, [], ◌∷◌, ◌++◌, append_assoc, append-nil}
use Rattle.std.specs.Prelude.{Option, Some, None}
use lib.ListN.{length, take, length-append, length-map}
use Rattle.base.specs.Replies.{Reply, accepted, refused, over}
use Rattle.base.specs.Limits.{work_words, line_limit}
use Rattle.kmers.specs.Kmers.{positions}
use Rattle.mappings.specs.Cells.{cells_of, hit_count, mapping_of}
use Rattle.mappings.proofs.Cells.{length_cells}
use Rattle.mappings.proofs.Rule.{total}
use Rattle.session_start.specs.Start.{start_reply}
use Rattle.session_start.specs.WorkWords.{session_words}
use Rattle.mapper.specs.Promise.{Accepts}
use Rattle.strands.specs.declared.Strand.{Strand}
use Rattle.strands.specs.declared.Strand.TheVariants.{Forward, Reverse}
use Rattle.strands.specs.Complement.{reverse_complement}
use Rattle.requests.specs.declared.Settings.{Settings}
use Rattle.requests.specs.Requests.{text_of, pattern_of, task_of}
use Rattle.requests.specs.Strands.{task_on}
use Rattle.list_input.specs.Input.{input_limit, Input, malformed, given, input_of}
use Rattle.list_input.proofs.Enough.{enough_bytes}
use Rattle.list_line.specs.Line.{decimal}
use Rattle.list_line.proofs.Decimal.{length_decimal}
use Rattle.list_line.proofs.Writers.{take_written}
use Rattle.list_lines.specs.Pieces.{line_room, finals_after, lines_after, Belongs}
use Rattle.list_open.specs.Calls.{calls_reply}
use Rattle.list_open.specs.Opening.{work_after, where_accepted}
use Rattle.list_open.proofs.Accepted.{and_accepted}
use Rattle.list_sessions.specs.Calls.{strands_reply}
use Rattle.list_sessions.specs.Sessions.{Outcome, no_input, refused_with, both, sessions_by, sessions_of, places_after, forward_after, reverse_after}
use Rattle.list_sessions.specs.declared.Sessions.{Sessions}
use Rattle.list_printed.specs.Output.{header_line, last_line, final_cells, strand_lines, found_on, cells_on, unless_refused, list_of, printed_for, output_of}
use Rattle.list_output.specs.Beginning.{first_line, BeginsWith, Begins}
use Rattle.list_output.specs.Whole.{Further, no_more, one_more, Following, Run, InHand, rest_of}
use Rattle.list_output.specs.declared.beginning.Begun.{Begun}
use Rattle.list_output.proofs.Next.{After, left_in_hand, next_prints}
use Rattle.list_output.proofs.Threshold.{threshold_fits}
use Rattle.list_output.proofs.OpenedSession.{start_accepts, places_are, words_are, session_belongs, lines_same}

-- no first line is longer than 64 bytes
first_short : (o : Outcome) → length (first_line o) ≤ 64
first_short no_input = omega arith
first_short (refused_with number) = let a : length (decimal number) ≤ 10 = length_decimal number in simp length-append (omega arith)
first_short (both k size size') = omega arith

-- all is printed by the first piece, or it leaves what the sessions have to print
abbrev pub AfterFirst : List ℕ → List ℕ → List ℕ → List ℕ → Option Sessions → ℕ → List ℕ → Type 0
AfterFirst bytes places forward reverse None left done = (left ≡ 0) × (done ≡ output_of bytes)
AfterFirst bytes places forward reverse (Some s) left done = After bytes places forward reverse s.k s.size s.reverse_size 0 left done

pub after_sessions : {bytes places forward reverse : List ℕ} {o : Option Sessions} {s : Sessions} {left : ℕ} {done : List ℕ} → o ≡ Some s
    → AfterFirst bytes places forward reverse o left done
    → After bytes places forward reverse s.k s.size s.reverse_size 0 left done
after_sessions {bytes} {places} {forward} {reverse} {left = left} {done = done} e a =
    subst (λ (o : Option Sessions). AfterFirst bytes places forward reverse o left done) e a

-- ---- what is left after the header

module _ (s : Settings) (text read : List ℕ) where
  counted : (strand : Strand) → length (finals_after (task_on s text read strand) 0) ≡ found_on s text read strand
  unfolding final_cells
  counted strand = length-map (final_cells (task_on s text read strand)) (mapping_of (task_on s text read strand))

  celled : (strand : Strand) → total (task_on s text read strand) ≡ cells_on s text read strand
  unfolding cells_of
  celled strand = sym (length_cells (hit_count (task_on s text read strand)))

-- ---- the sessions of both strands

module _ (s : Settings) (text read places forward reverse values values' : List ℕ)
    (ahead : calls_reply s text read (length places) (length forward) ≡ accepted values)
    (behind : calls_reply s text (reverse_complement read) (length places) (length reverse) ≡ accepted values') where
  abbrev back : List ℕ
  back = reverse_complement read

  abbrev of_text : List ℕ
  of_text = positions (text_of s text)

  list_rest : header_line ++ rest_of (task_of s text read) (task_of s text back) (over of_text places) s.k (length (pattern_of s text read))
      (length (pattern_of s text back)) 0 0 0
      ≡ list_of s text read
  unfolding list_of strand_lines final_cells
  list_rest =
      let a : List ℕ = lines_after (task_of s text read) (over of_text places) s.k (length (pattern_of s text read)) Forward 0 in
      let b : List ℕ = lines_after (task_of s text back) (over of_text places) s.k (length (pattern_of s text back)) Reverse 0 in
      let n : ℕ = length (finals_after (task_of s text read) 0) in
      let m : ℕ = length (finals_after (task_of s text back) 0) in
      let e : List ℕ = last_line (0 + n + m) (total (task_of s text read) + total (task_of s text back)) in
      let found : 0 + n + m ≡ found_on s text read Forward + found_on s text read Reverse =
      ap (λ (i : ℕ). i + m) (zero-add n) ∙ ap₂ ◌+◌ (counted s text read Forward) (counted s text read Reverse) in
      let cells : total (task_of s text read) + total (task_of s text back) ≡ cells_on s text read Forward + cells_on s text read Reverse =
      ap₂ ◌+◌ (celled s text read Forward) (celled s text read Reverse) in
      sym (append_assoc header_line (a ++ b) e)
      ∙ ap (λ (l : List ℕ). l ++ e) (sym (append_assoc header_line a b))
      ∙ ap₂ (λ (l m : List ℕ). header_line ++ l ++ m ++ e) (lines_same s text read places forward values ahead Forward (cells_of (task_of s text read)))
      (lines_same s text back places reverse values' behind Reverse (cells_of (task_of s text back)))
      ∙ ap₂ (λ (i j : ℕ). header_line ++ strand_lines s text read Forward ++ strand_lines s text read Reverse ++ last_line i j) found cells

-- ---- the first piece

module _ (bytes places forward reverse out : List ℕ) (room : length places ≡ line_limit) (lent : length forward ≡ work_words)
    (lent' : length reverse ≡ work_words) (long : line_room ≤ length out) where
  module _ (r : Begun) (out' : List ℕ) where
    first_printed : (o : Outcome) (forward' reverse' : List ℕ) → BeginsWith o forward' reverse' out r out'
        → take r.written out' ≡ first_line o
    first_printed o forward' reverse' b = take_written b.first (let l : length (first_line o) ≤ 64 = first_short o in omega arith)

    module _ (s : Settings) (text read : List ℕ) (input : input_of bytes ≡ given s text read) where
      abbrev places' : List ℕ
      places' = places_after (given s text read) places

      abbrev forward' : List ℕ
      forward' = forward_after (given s text read) (length places) forward

      abbrev reverse' : List ℕ
      reverse' = reverse_after (given s text read) (length places) (length forward) reverse

      abbrev size : ℕ
      size = length (pattern_of s text read)

      abbrev size' : ℕ
      size' = length (pattern_of s text (reverse_complement read))

      abbrev of_strands : Reply
      of_strands = strands_reply s text read (length places) (length forward) (length reverse)

      printed : (reply : Reply) → of_strands ≡ reply → output_of bytes ≡ unless_refused reply (list_of s text read)
      unfolding output_of
      printed reply e =
          let calls : strands_reply s text read line_limit work_words work_words ≡ reply = rw (room, lent, lent') at e in
          ap printed_for input ∙ ap (λ (a : Reply). unless_refused a (list_of s text read)) calls

      accepts_start : (mapped work : List ℕ) → start_reply (task_of s text mapped) (length work) ≡ accepted (hit_count (task_of s text mapped) ∷ [])
          → Accepts (task_of s text mapped) work
      unfolding task_of
      accepts_start mapped work e = record { accepts = e; threshold_fits = threshold_fits bytes s text read input }

      opened : (reply : Reply) → of_strands ≡ reply → BeginsWith (sessions_by reply s.k size size') forward' reverse' out r out'
          → AfterFirst bytes places' forward' reverse' r.sessions r.left (take r.written out')
      unfolding strands_reply places_after forward_after reverse_after
      opened (refused number values) e b =
          rw b.sessions_are (b.left_is, first_printed (refused_with number) forward' reverse' b ∙ sym (printed (refused number values) e))
      opened (accepted values) e b =
          let back : List ℕ = reverse_complement read in
          let calls =
          and_accepted (calls_reply s text read (length places) (length forward)) (calls_reply s text back (length places) (length reverse)) values e in
          let one = calls.0.1 in
          let two = calls.1 in
          let stands : places' ≡ over (positions (text_of s text)) places = places_are s text read places forward calls.0.0 one in
          let words' : reverse' ≡ session_words (task_of s text back) reverse 0 =
          ap (λ (a : Reply). where_accepted a (work_after s text back (length places) reverse) reverse) one
          ∙ words_are s text back places reverse values two in
          let hand : InHand (task_of s text read) places' s.k size forward' 0 =
          record {
            before = forward;
            accepts = accepts_start read forward (start_accepts s text read places forward calls.0.0 one);
            belongs = subst (λ (l : List ℕ). Belongs (task_of s text read) l s.k size) (sym stands)
                (session_belongs s text read places forward calls.0.0 one);
            among = zero-le;
            words = words_are s text read places forward calls.0.0 one;
          } in
          let hand' : InHand (task_of s text back) places' s.k size' reverse' 0 =
          record {
            before = reverse;
            accepts = accepts_start back reverse (start_accepts s text back places reverse values two);
            belongs = subst (λ (l : List ℕ). Belongs (task_of s text back) l s.k size') (sym stands)
                (session_belongs s text back places reverse values two);
            among = zero-le;
            words = words';
          } in
          let rest : take r.written out' ++ rest_of (task_of s text read) (task_of s text back) places' s.k size size' 0 0 0 ≡ output_of bytes =
          ap (λ (l : List ℕ). l ++ rest_of (task_of s text read) (task_of s text back) places' s.k size size' 0 0 0)
          (first_printed (both s.k size size') forward' reverse' b)
          ∙ ap (λ (l : List ℕ). header_line ++ rest_of (task_of s text read) (task_of s text back) l s.k size size' 0 0 0) stands
          ∙ list_rest s text read places forward reverse calls.0.0 values one two
          ∙ sym (printed (accepted values) e) in
          rw b.sessions_are
          (inr
          (record {
            task = task_of s text read;
            task' = task_of s text back;
            q = 0;
            q' = 0;
            ahead = hand;
            behind = hand';
            counted = zero-le;
            remaining = b.left_is ∙ ap₂ ◌+◌ (left_in_hand hand) (left_in_hand hand');
            rest = rest;
          }))

    by_input : (input : Input) → input_of bytes ≡ input
        → BeginsWith (sessions_of input (length places) (length forward) (length reverse)) (forward_after input (length places) forward)
        (reverse_after input (length places) (length forward) reverse) out r out'
        → AfterFirst bytes (places_after input places) (forward_after input (length places) forward)
        (reverse_after input (length places) (length forward) reverse) r.sessions r.left (take r.written out')
    unfolding output_of sessions_of
    by_input malformed e b = rw b.sessions_are (b.left_is, first_printed no_input _ _ b ∙ sym (ap printed_for e))
    by_input (given s text read) e b = opened s text read e (strands_reply s text read (length places) (length forward) (length reverse)) refl b

    -- the first piece, with room for any first line
    pub begin_prints : (places' forward' reverse' : List ℕ) → Begins bytes places forward reverse out r places' forward' reverse' out'
        → AfterFirst bytes places' forward' reverse' r.sessions r.left (take r.written out')
    begin_prints places' forward' reverse' b =
        rw (b.positions_after, b.forward_after, b.reverse_after)
        (by_input (input_of bytes) refl (rw (b.forward_after, b.reverse_after) at b.begun))

-- the first bytes of the input decide: a program that reads `input_limit` of them prints what one that reads all would
pub first_bytes : (n : ℕ) (bytes : List ℕ) → input_limit ≤ n → output_of (take n bytes) ≡ output_of bytes
unfolding output_of
first_bytes n bytes room = ap printed_for (enough_bytes n bytes room)

-- ---- a run

further_prints : (bytes places : List ℕ) (k size size' : ℕ) {forward reverse : List ℕ} {found left : ℕ} {rest : List ℕ} (done : List ℕ)
    → After bytes places forward reverse k size size' found left done → Further places k size size' forward reverse found left rest
    → done ++ rest ≡ output_of bytes
further_prints bytes places k size size' done (inl e) no_more = append-nil done ∙ e.1
further_prints bytes places k size size' done (inr p) no_more = absurd (omega (arith, p.remaining))
further_prints bytes places k size size' {forward} {reverse} {found} {left} done a
    (one_more {forward' = forward'} {reverse' = reverse'} {out = out} {out' = out'} {rest = rest} {r = r} some long fills next) =
    let on = next_prints bytes places forward reverse k size size' found left done a some out r forward' reverse' out' long fills in
    sym (append_assoc done (take r.written out') rest) ∙ further_prints bytes places k size size' (done ++ take r.written out') on.1 next

-- the pieces behind the first, and the first, are the output
following_prints : (bytes places : List ℕ) (o : Option Sessions) (forward reverse : List ℕ) (left : ℕ) (rest done : List ℕ)
    → AfterFirst bytes places forward reverse o left done → Following places o forward reverse left rest
    → done ++ rest ≡ output_of bytes
following_prints bytes places None forward reverse left rest done a none = ap (λ (l : List ℕ). done ++ l) none ∙ append-nil done ∙ a.1
following_prints bytes places (Some s) forward reverse left rest done a further = further_prints bytes places s.k s.size s.reverse_size done a further

-- the pieces of a run, one after the other, are the output for its whole input
pub what_is_printed : (input printed : List ℕ) → Run input printed → printed ≡ output_of input
what_is_printed input printed run =
    let bytes : List ℕ = take input_limit input in
    let began =
    begin_prints bytes run.places run.forward run.reverse run.out run.room run.lent run.lent' run.long run.begun run.out'
    run.places' run.forward' run.reverse' run.first in
    run.whole
    ∙ following_prints bytes run.places' run.begun.sessions run.forward' run.reverse' run.begun.left run.rest (take run.begun.written run.out')
    began run.further
    ∙ first_bytes input_limit input (omega arith)
