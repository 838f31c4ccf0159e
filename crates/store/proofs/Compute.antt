-- One name that opens every definition of this crate and of minimizers, for proofs that compute.
use Rattle.minimizers.proofs.Compute.{minimizers_compute}
use Rattle.store.specs.Words.{kind, content, word, header, header_k, header_w, is_header, is_code, is_position}
use Rattle.store.specs.Save.{stored, save_reply, save_words}
use Rattle.store.specs.Load.{last_word, judge_from, judge, store_k, store_w, load_room, load_reply, load_codes, load_positions}

unfoldable pub store_computes : Unit {0}
unfolding minimizers_compute kind content word header header_k header_w is_header is_code is_position stored save_reply save_words last_word judge_from
    judge store_k
    store_w load_room load_reply load_codes load_positions
store_computes = tt
