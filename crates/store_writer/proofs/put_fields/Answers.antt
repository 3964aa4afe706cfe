-- store_writer::put_fields meets its contract.
use Rattle.encoder.specs.Encoded.{fields_put}
use Rattle.store_writer.specs.Stored.{entry_put}
use Rattle.store_writer.proofs.put_fields.Goals as goal

pub returns : goal.returns
unfolding entry_put fields_put
returns c =
    rw (c.put-4.ensures, c.bits_of.ensures, c.put-3.ensures, c.put-2.ensures, c.put.ensures)
