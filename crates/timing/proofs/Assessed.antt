-- The figures of an assignment are what the words say. Assumes nothing.
use Rattle.std.proofs.Common.{◌≡◌, ℕ, Bool, true, false, cond, List, Some, None, sym, refl, subst, MatchOption}
use Rattle.netlist.specs.Netlist.{Netlist, lawful}
use Rattle.std.proofs.lemmas.Bool.{both_ways}
use Rattle.std.proofs.lemmas.Bool.Decides.{Decides-like}
use Rattle.timing.specs.Arrivals.{meets}
use Rattle.timing.specs.Assess.{Judged, assessed, figures}
use Rattle.timing.specs.Assignments.{Assigns, assigns}
use Rattle.timing.specs.Paths.{Meets}
use Rattle.timing.specs.Published.{Selection, Feasible, InTime, OneToOne, assignment_of}
use Rattle.timing.proofs.Cycles.{as_published}
use Rattle.timing.proofs.Offers.{assigns_means, assigns_from}
use Rattle.timing.proofs.Selected.{selects_all, assigns_all, there_and_back, back_and_there}
use Rattle.timing.proofs.Walked.{longest, meets_decides}

module _ (n : Netlist) (ok : lawful n ≡ true) (a : List ℕ) where
  judged : Assigns n a → Judged n a (figures n a)
  judged h =
      let same = as_published n ok a h in
      record {
        assigns = h;
        objective = same.same_power;
        longest = longest n ok a;
        meets = meets_decides n ok a;
        in_time = Decides-like (meets n a) same.in_time same.meets (meets_decides n ok a);
      }

  pub assessed_words : MatchOption (assessed n a) (Assigns n a → ⊥) (Judged n a)
  assessed_words = go (assigns n a) refl
    where
      go : (b : Bool) → assigns n a ≡ b → MatchOption (cond b (Some (figures n a)) None) (Assigns n a → ⊥) (Judged n a)
      go true e = judged (assigns_means n a e)
      go false e = λ h. both_ways (assigns n a) e (assigns_from n a h)

module _ (n : Netlist) (ok : lawful n ≡ true) where
  meeting : (u : Selection) → Feasible n u → Meets n (assignment_of n u)
  meeting u (s, t) =
      let same = as_published n ok (assignment_of n u) (assigns_all n ok u s) in
      same.meets (subst (InTime n) (sym (back_and_there n ok u s)) t)

  pub one_to_one : OneToOne n
  one_to_one =
      record {
        selects = selects_all n ok;
        assigns = assigns_all n ok;
        there_and_back = there_and_back n ok;
        back_and_there = back_and_there n ok;
        feasible = λ a h m. (selects_all n ok a h, (as_published n ok a h).in_time m);
        meets = meeting;
      }
