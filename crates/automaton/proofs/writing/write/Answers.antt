-- The records go one after the other, and the length that the room is compared with is theirs.
use Rattle.std.proofs.Common.{◌≡◌, ◌≤◌, ◌<◌, ◌∙◌, ap, arith, length, refl, rules, sym}
use Rattle.records.specs.Answers.{reading_of}
use Rattle.records.specs.Read.{found}
use Rattle.records.specs.Pen.{put_in, HasRoom}
use Rattle.records.proofs.Buffers.{room_enough, room_short}
use Rattle.records.proofs.Pens.{all_left, next_left, last_left}
use Rattle.automaton.specs.Decoded.{size_of}
use Rattle.automaton.specs.Table.{encode}
use Rattle.automaton.proofs.writing.Parts.{length_written}
use Rattle.automaton.proofs.writing.write.Goals as goal

pub returns-then-out-length : goal.returns-then-out-length
unfolding reading_of
returns-then-out-length c =
    let A = c.args.table.now in
    let size = c.size-size.ensures in
    let finals = c.finals-finals.ensures in
    let long = length_written A _ _ _ _ _ size.value finals c.len.ensures c.rules-rules.ensures c.rules_length.ensures.value in
    let short : length c.args.out.now < length (encode A) = omega arith in
    record { result_value = sym (room_short _ _ short).0; out_after = sym (room_short _ _ short).1 }

pub returns : goal.returns
unfolding reading_of encode size_of
returns c =
    let A = c.args.table.now in
    let size = c.size-size.ensures in
    let finals = c.finals-finals.ensures in
    let long = length_written A _ _ _ _ _ size.value finals c.len.ensures c.rules-rules.ensures c.rules_length.ensures.value in
    let fits : length (encode A) ≤ length c.args.out.now = omega arith in
    let room : HasRoom (length (encode A)) c.new-pen.result = rw c.new-pen.ensures (omega arith) in
    let first = next_left (all_left room) _ _ refl (rw size.value at c.put_size.ensures) in
    let second = next_left first _ _ refl (rw c.ranks.ensures at c.put_ranks.ensures) in
    let third = next_left second _ _ refl (rw (← finals) at c.put_finals.ensures) in
    let whole : c.put_rules.new.pen ≡ put_in (encode A) c.new-pen.result = last_left third (rw c.rules-rules.ensures at c.put_rules.ensures) in
    record {
      result_value = sym ((room_enough _ _ fits).0 ∙ ap found long);
      out_after = rw (room_enough _ _ fits).1 (search rules);
    }
