-- Every piece of the table is what is measured: by evaluation of the definitions. Assumes nothing.
use mathlib.Core.Path.{refl}
use Rattle.lists.specs.First.{first}
use Rattle.lists.specs.Tab.{tab, grid}
use Rattle.whole.specs.Clip.{clip}
use Rattle.whole.specs.Range.{inside, first_outside}
use Rattle.transform.specs.Forward.{forward}
use Rattle.transform.specs.Inverse.{inverse}
use Rattle.transform.specs.Hadamard.{hadamard}
use Rattle.intra4.specs.Samples.{bit_of}
use Rattle.intra4.specs.Rules.{predicted, down_left, horizontal_up}
use Rattle.residual.specs.Order.{in_zigzag, in_places}
use Rattle.residual.specs.Quantize.{level_by}
use Rattle.residual.specs.Rescale.{scaled_by, rescaled}
use Rattle.dc.specs.Dc.{quantized_dc, luma_levels, luma_scaled, luma_values, chroma_levels, chroma_scaled, chroma_values}
use Rattle.head.specs.Heads.{head_of, old_head}
use Rattle.octets.specs.Sum.{summed}
use Rattle.octets.specs.Sum.{sum_of}
use Rattle.pieces.specs.Table.{AsMeasured, table}

pub measured : AsMeasured table
unfolding table first tab grid clip inside first_outside forward inverse bit_of predicted down_left horizontal_up in_zigzag in_places level_by scaled_by rescaled head_of old_head summed sum_of luma_levels quantized_dc luma_values luma_scaled chroma_levels chroma_values chroma_scaled hadamard
measured = (refl, (refl, (refl, (refl, (refl, (refl, (refl, (refl, (refl, (refl, (refl, (refl, (refl, (refl, (refl, (refl, (refl, (refl, (refl, (refl, (refl, (refl, (refl, (refl, (refl, (refl, (refl, tt)))))))))))))))))))))))))))
