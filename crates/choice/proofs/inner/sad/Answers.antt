use Rattle.std.proofs.Common.{take_all, arith, ◌≡◌, length, map, rules, tests, ◌∙◌}
use Rattle.std.specs.List.{sum, zip}
use Rattle.std.proofs.lemmas.Iterator.{YieldsList-from_slice, YieldsList-from_zip, YieldsList-from_map}
use Rattle.std.proofs.lemmas.Iterator.Consumers.{YieldsList-at, sum_from_yields_List}
use Rattle.lists.specs.Total.{gap}
use Rattle.lists.proofs.Bytes.{bytes_known}
use Rattle.choice.proofs.Sad.{sad_zipped, sad_low}
use Rattle.choice.proofs.inner.sad.Goals as goal

pub returns : goal.returns
returns c =
    let a = c.args.a.now in
    let b = c.args.b.now in
    let summed : c.sum.result ≡ sum (map (λ p. gap p.0 p.1) (zip a b)) =
    sum_from_yields_List c.map.result c.sum.result c.sum.ensures.ran
    (YieldsList-from_map _ (λ p. gap p.0 p.1)
    (YieldsList-at c.map.ensures.source
    (YieldsList-from_zip (YieldsList-at c.zip.ensures.first (YieldsList-from_slice a cc)) (YieldsList-at c.zip.ensures.second (YieldsList-from_slice b (c.iter-2.ensures.rest ∙ take_all (length a) b (omega arith))))))
    c.map.ensures.closure (λ x r q k. search (rules, tests))) in
    let is = summed ∙ sad_zipped a b c.requires.0 in
    (is, rw is (sad_low (length a) (bytes_known a c.type_inv.a) (bytes_known b c.type_inv.b)))
