-- What the request read from the input says of the bytes.
use Prim.Native.Nat.{ℕ, ◌-◌, ◌≤◌}
use native.Mathlib.Omega.{arith}
use mathlib.Core.Path.{◌≡◌, refl, sym, ap, ◌∙◌, subst}
use mathlib.Core.List.{List}
use lib.ListN.{length, take, drop, length-take}
use Rattle.std.specs.Prelude.{Option, Some, None}
use Rattle.list_input.specs.Input.{Input, malformed, given, input_of}
use Rattle.list_input.specs.Answers.{part, request_input, request_of, LinesInside, Inside}
use Rattle.list_input.specs.declared.Request.{Request}
use Rattle.list_input.proofs.Places.{request_input_lem, request_inside}
use Rattle.list_sessions.specs.Sessions.{Outcome, no_input, sessions_of, places_after, forward_after, reverse_after, OpensBoth}

-- the bytes from an index up to another are no more than lie between the two
pub part_short : (bytes : List ℕ) (from end limit : ℕ) → end - from ≤ limit → length (take (end - from) (drop from bytes)) ≤ limit
part_short bytes from end limit h = simp length-take (omega arith)

pub none_of : (answer : Option Request) → ((r : Request) → answer ≡ Some r → ⊥) → answer ≡ None
none_of None h = refl
none_of (Some r) h = absurd (h r refl)

module _ (bytes : List ℕ) (answer : Option Request) (read : answer ≡ request_of bytes) where
  stands_for : request_input answer bytes ≡ input_of bytes
  stands_for = ap (λ (a : Option Request). request_input a bytes) read ∙ request_input_lem bytes

  pub opens_malformed : answer ≡ None → (places forward reverse : List ℕ)
      → OpensBoth (input_of bytes) places forward reverse no_input places forward reverse
  unfolding sessions_of places_after forward_after reverse_after
  opens_malformed e places forward reverse =
      let input : malformed ≡ input_of bytes = subst (λ (a : Option Request). request_input a bytes ≡ input_of bytes) e stands_for in
      subst (λ (i : Input). OpensBoth i places forward reverse no_input places forward reverse) input
      (record { answer = refl; positions_after = refl; forward_after = refl; reverse_after = refl })

  module _ (r : Request) (e : answer ≡ Some r) where
    pub lines_inside : LinesInside r bytes
    lines_inside = subst (λ (a : Option Request). Inside a bytes) (sym read ∙ e) (request_inside bytes)

    pub opens_given : (places forward reverse : List ℕ) (o : Outcome) (places' forward' reverse' : List ℕ)
        → OpensBoth (given r.settings (part r.text r.text_end bytes) (part r.read r.read_end bytes)) places forward reverse o places' forward'
        reverse'
        → OpensBoth (input_of bytes) places forward reverse o places' forward' reverse'
    opens_given places forward reverse o places' forward' reverse' opens =
        let input : given r.settings (part r.text r.text_end bytes) (part r.read r.read_end bytes) ≡ input_of bytes =
        subst (λ (a : Option Request). request_input a bytes ≡ input_of bytes) e stands_for in
        subst (λ (i : Input). OpensBoth i places forward reverse o places' forward' reverse') input opens
