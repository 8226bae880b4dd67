-- `quantizer::inner::by_class` meets its contract: the rule `classes` of the code's pattern. Assumes nothing.
use Rattle.quantizer.proofs.Tables.{classes}
use Rattle.quantizer.proofs.inner.by_class.Goals as goal

pub returns : goal.returns
returns c = classes c.args.a c.args.b c.args.c
