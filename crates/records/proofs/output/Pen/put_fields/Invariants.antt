-- The numbers so far are written.
use Rattle.std.proofs.Common.{◌≡◌, take}
use Rattle.records.specs.Bytes.{fields}
use Rattle.records.specs.Pen.{put_in}
use Rattle.records.proofs.output.Pen.put_fields.Given as goal

abbrev pub invariant-loop-v : goal.invariant-loop-v
invariant-loop-v l = l.self ≡ put_in (fields (take l.v-index l.numbers)) l.initial.self
