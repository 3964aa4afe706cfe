-- vectors::compare_field meets its contract.
use Rattle.vectors.specs.Vectors.{step_by}
use Rattle.vectors.proofs.compare_field.Goals as goal

pub returns : goal.returns
unfolding step_by
returns g c = rw (c.one_more.ensures, c.differs-differs.ensures, c.field_case.ensures)
