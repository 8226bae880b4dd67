-- `record::inner::write_chroma` meets its contract: a record of its kind, with both offsets as bytes. Assumes nothing.
use mir.Facts.{to_z-of_z}
use Rattle.record.specs.Records.{record_chroma}
use Rattle.record.proofs.inner.write_chroma.Goals as goal

pub returns-clause-file_after : goal.returns-clause-file_after
unfolding record_chroma
returns-clause-file_after c = rw (c.signed_byte-next.ensures, c.signed_byte.ensures, to_z-of_z c.ranges.cb, to_z-of_z c.ranges.cr) at c.record_over.ensures.file_after
