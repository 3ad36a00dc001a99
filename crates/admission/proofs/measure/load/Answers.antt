-- `measure::load` meets its contract: no task wants more than `whole`, so the sum fits.
use Rattle.std.proofs.Common.{◌≡◌, length, rules, tests, arith}
use Rattle.std.specs.List.{sum_by}
use Rattle.std.proofs.lemmas.Iterator.{YieldsList-from_slice, YieldsList-from_map}
use Rattle.std.proofs.lemmas.Iterator.Consumers.{sum_by_from_yields_List, fits_by_from_yields_list}
use Rattle.std.proofs.lemmas.Iterator.Adapters.{serves_from_places}
use native.Mathlib.Nat.{mul-le-mul_right}
use Rattle.admission.proofs.Listed.{wanted, load_sum, read_few, load_few}
use Rattle.admission.proofs.measure.load.Goals as goal

pub sum-requires-clause-can : goal.sum-requires-clause-can
sum-requires-clause-can c = (
  tt,
  serves_from_places (YieldsList-from_slice c.args.tasks.now cc) (λ x q k. search rules)
      (λ x i b e. let f = read_few c.args.tasks.now c.requires.no_refusal c.map.result.f.0.now x.now i b e in search rules),
)

pub sum-requires-clause-fits : goal.sum-requires-clause-fits
sum-requires-clause-fits c =
    let l = c.args.tasks.now in
    let H = c.args.whole in
    fits_by_from_yields_list (wanted H) l c.map.result _
    (YieldsList-from_map _ (wanted H) (YieldsList-from_slice l cc) c.map.ensures.closure (λ x b q k. search (rules, tests)))
    (omega (arith, load_sum l H, load_few l c.requires.no_refusal H, mul-le-mul_right (length l) c.requires.limited))

pub returns : goal.returns
returns c =
    let l = c.args.tasks.now in
    let H = c.args.whole in
    let summed : c.sum.result ≡ sum_by (wanted H) l =
    sum_by_from_yields_List (wanted H) l c.map.result _ c.sum.ensures.ran
    (YieldsList-from_map _ (wanted H) (YieldsList-from_slice l cc) c.map.ensures.closure (λ x b q k. search (rules, tests))) in
    omega (arith, summed, load_sum l H)
