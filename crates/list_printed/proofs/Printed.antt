-- What `maplist` prints for an accepted input: the lines of exactly the final mappings of each strand's task.
use Prim.Native.Nat.{ℕ, ◌+◌}
use mathlib.Core.Path.{◌≡◌, sym, ap, ap₂, ◌∙◌, subst}
use mathlib.Core.List.{List, ◌++◌}
use lib.ListN.{length, length-map}
use Rattle.base.specs.Replies.{Reply, accepted}
use Rattle.kmers.specs.Kmers.{positions}
use Rattle.base.specs.Limits.{work_words, line_limit}
use Rattle.mappings.specs.Score.{Task}
use Rattle.mappings.specs.Cells.{Cell, Mapping, cells_of, hit_count, mapping_of}
use Rattle.mappings.specs.Demand.{EachOnce}
use Rattle.mappings.proofs.Cells.{length_cells}
use Rattle.mappings.proofs.Rule.{total, finals_of}
use Rattle.mappings.proofs.Demand.{take_all_cells}
use Rattle.mappings.proofs.Finals.{finals_among, finals_list, finals_once, final_among}
use Rattle.strands.specs.declared.Strand.{Strand}
use Rattle.strands.specs.declared.Strand.TheVariants.{Forward, Reverse}
use Rattle.strands.specs.Strands.{read_on}
use Rattle.requests.specs.declared.Settings.{Settings}
use Rattle.requests.specs.Requests.{text_of, pattern_of}
use Rattle.requests.specs.Strands.{task_on}
use Rattle.list_input.specs.Input.{given, input_of}
use Rattle.list_sessions.specs.Calls.{strands_reply}
use Rattle.list_lines.specs.Lines.{mapping_lines}
use Rattle.list_printed.specs.Output.{header_line, last_line, final_cells, strand_lines, found_on, cells_on, list_of, printed_for, unless_refused, output_of}
use Rattle.list_printed.specs.Printed.{PrintsFinals}

module _ (s : Settings) (text read : List ℕ) where
  abbrev task : Strand → Task
  task = task_on s text read

  -- the lines of a strand, given its mappings
  abbrev lines : Strand → List Mapping → List ℕ
  lines strand mappings = mapping_lines (positions (text_of s text)) s.k (length (pattern_of s text (read_on strand read))) strand mappings

  abbrev finals : Strand → List Mapping
  finals strand = finals_of (task strand) (cells_of (task strand))

  found : (strand : Strand) → found_on s text read strand ≡ length (finals strand)
  unfolding final_cells
  found strand = sym (length-map (final_cells (task strand)) (mapping_of (task strand)))

  cells : (strand : Strand) → cells_on s text read strand ≡ total (task strand)
  unfolding cells_of
  cells strand = length_cells (hit_count (task strand))

  pub prints_finals : (bytes values : List ℕ) → input_of bytes ≡ given s text read
      → strands_reply s text read line_limit work_words work_words ≡ accepted values → PrintsFinals s text read (output_of bytes)
  unfolding output_of list_of strand_lines final_cells
  prints_finals bytes values input accepts =
      let front : List ℕ = header_line ++ lines Forward (finals Forward) ++ lines Reverse (finals Reverse) in
      record {
        mappings = finals;
        exact = λ strand. finals_among (task strand) (cells_of (task strand));
        complete = λ strand. final_among (task strand);
        once = λ strand.
            subst (λ (l : List Cell). EachOnce (finals_of (task strand) l)) (take_all_cells (task strand)) (finals_once (task strand) (total (task strand)));
        bytes =
            ap printed_for input
            ∙ ap (λ (reply : Reply). unless_refused reply (list_of s text read)) accepts
            ∙ ap₂ (λ (n k : ℕ). front ++ last_line n k) (ap₂ ◌+◌ (found Forward) (found Reverse)) (ap₂ ◌+◌ (cells Forward) (cells Reverse));
      }

  -- the statement leaves one output alone
  pub prints_one : (one other : List ℕ) → PrintsFinals s text read one → PrintsFinals s text read other → one ≡ other
  prints_one one other p q =
      let same : (strand : Strand) → p.mappings strand ≡ q.mappings strand =
      λ strand. finals_list (task strand) (p.exact strand) ∙ sym (finals_list (task strand) (q.exact strand)) in
      p.bytes
      ∙ ap₂ (λ (l m : List Mapping). header_line ++ lines Forward l ++ lines Reverse m
      ++ last_line (length l + length m) (total (task Forward) + total (task Reverse))) (same Forward) (same Reverse)
      ∙ sym q.bytes
