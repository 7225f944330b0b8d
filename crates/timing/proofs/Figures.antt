-- The figures of one module and one net under an assignment. Assumes nothing.
use Rattle.std.proofs.Common.{◌≡◌, ℕ, ◌<◌, ◌≤◌, Bool, true, false, cond, List, length, get_or, ap, ◌∙◌, ⊎_elim, arith}
use Rattle.netlist.specs.declared.parts.Choice.{Choice}
use Rattle.netlist.specs.Netlist.{Netlist, modules, lawful, no_choice}
use Rattle.netlist.specs.Rules.{Rules, choice, net, no_menu, no_net}
use Rattle.netlist.proofs.Words.{keeps_rules}
use Rattle.std.proofs.lemmas.List.{get_or_past}
use Rattle.std.proofs.lemmas.Bool.{cases_lt}
use Rattle.timing.specs.Assignments.{Assigns, supply}
use Rattle.timing.specs.Paths.{module_delay}
use Rattle.timing.specs.Power.{module_power, net_power}
use Rattle.timing.specs.Shifters.{climbs, needs_shifter}
use Rattle.timing.specs.Sums.{sum_below}
use Rattle.timing.proofs.Shifters.{climbs_same}
use Rattle.timing.proofs.Sums.{sum_below_bound}

pub no_module : (n : Netlist) (m s : ℕ) → modules n ≤ m → choice n m s ≡ no_choice
no_module n m s h = ap (λ x. get_or x.values s no_choice) (get_or_past n.menus m no_menu h)

pub no_wire : (n : Netlist) (i : ℕ) → length n.nets ≤ i → (net n i).wire ≡ 0
no_wire n i h = ap (λ t. t.wire) (get_or_past n.nets i no_net h)

module _ (n : Netlist) (a : List ℕ) where
  pub no_shifter : (i : ℕ) → length n.nets ≤ i → needs_shifter n a i ≡ false
  no_shifter i h = ap (λ t. climbs n (supply a t.driver) (supply a t.receiver)) (get_or_past n.nets i no_net h) ∙ climbs_same n (supply a 0)

  module _ (ok : lawful n ≡ true) where
    law : Rules n
    law = keeps_rules n ok

    pub nets_power_bound : sum_below (length n.nets) (net_power n a) ≤ 2560000
    nets_power_bound =
        let few = law.at_most_256 in
        let sum = sum_below_bound (length n.nets) (net_power n a) 10000 (λ i. one (needs_shifter n a i)) in
        omega arith
      where
        one : (b : Bool) → cond b n.terms.shifter.power 0 ≤ 10000
        one true = law.shifter_power
        one false = omega arith

  module _ (ok : lawful n ≡ true) (assigns : Assigns n a) where
    pub choice_bound : (m : ℕ) → (module_delay n a m ≤ 10000) × (module_power n a m ≤ 1000000)
    choice_bound m = ⊎_elim inside outside (cases_lt m (modules n))
      where
        inside : m < modules n → (module_delay n a m ≤ 10000) × (module_power n a m ≤ 1000000)
        inside h =
            let o = assigns.of_its_menu m h in
            let law = law ok in
            ((law.delays m (supply a m) o).1, (law.powers m (supply a m) o).1)

        outside : modules n ≤ m → (module_delay n a m ≤ 10000) × (module_power n a m ≤ 1000000)
        outside h =
            let d = ap (λ (c : Choice). c.delay) (no_module n m (supply a m) h) in
            let p = ap (λ (c : Choice). c.power) (no_module n m (supply a m) h) in
            (omega arith, omega arith)

    pub modules_power_bound : sum_below (modules n) (module_power n a) ≤ 64000000
    modules_power_bound =
        let few = (law ok).at_most_64 in
        let sum = sum_below_bound (modules n) (module_power n a) 1000000 (λ m. (choice_bound m).1) in
        omega arith
