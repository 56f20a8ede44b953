-- Kept: without each of these the check finds no proof at half its limits (tried one by one).
use Rattle.std.proofs.Common.{◌≡◌, ◌≤◌, ◌++◌, map, length, drop, sym, refl, ap, ◌∙◌, subst, arith}
use Rattle.std.proofs.lemmas.Bool.{false≢true, cond-true, le-leb}
use Rattle.std.proofs.lemmas.Result.{err_from_is_err_and}
use Rattle.std.proofs.lemmas.Grind.{common_steps}
use Rattle.bounds.specs.Ends.{loosest}
use Rattle.bounds.specs.Sides.{earliest, latest}
use Rattle.bounds.specs.declared.end.Ends.{Ends}
use Rattle.network.specs.Drafts.{net}
use Rattle.network.specs.Nets.{count, no_event}
use Rattle.network.specs.Rounds.{given_ends, central}
use Rattle.network.specs.Decided.{Decided}
use Rattle.network.specs.Solved.{window_of, told, filled, Windows}
use Rattle.network.proofs.Central.{central_decides}
use Rattle.network.proofs.Solving.{told_barred, filled_barred, windows_exact}
use Rattle.network.proofs.Sounds.{draft_sound}
use Rattle.network.proofs.Written.{filled_places, filled_all}
use Rattle.network.proofs.solve.solve.Goals as goal

-- the ends of an event that is not there
abbrev none : Ends
none = record { earliest = loosest earliest; latest = loosest latest }

pub run_rounds-requires : goal.run_rounds-requires
run_rounds-requires c =
    let es = c.events-events.result.now in
    let same = ap length c.events-events.ensures in
    let few : length es ≤ 64 = omega (arith, same, c.args.draft.now.events.few) in
    filled_all given_ends no_event es _ c.fill.new.places c.fill.ensures (grind (arith, common_steps, few)) ∙ ap (map given_ends) c.events-events.ensures

pub returns-in_err-rounds : goal.returns-in_err-rounds
returns-in_err-rounds c =
    let d = c.args.draft.now in
    let N = net d in
    let before = c.args.windows.now in
    let same = ap length c.events-events.ensures in
    let enough : count N ≤ length before = omega (arith, same) in
    let p = err_from_is_err_and c.from_residual.result c.from_residual.ensures.1 in
    let bar = c.in_err-rounds.ensures in
    record {
      value = rw (p.1, p.2) (sym (cond-true _ _ _ (le-leb _ _ enough) ∙ told_barred (central N) _ bar));
      after = sym (cond-true _ _ _ (le-leb _ _ enough) ∙ filled_barred before (central N) _ bar);
      refuses = λ _. (λ _. (central_decides N (draft_sound d)).barred _ bar, λ _. rw p.1 refl);
      exact = rw p.1 (λ e. absurd (false≢true e));
      rounds = rw p.1 tt;
    }

pub returns : goal.returns
returns c =
    let d = c.args.draft.now in
    let N = net d in
    let before = c.args.windows.now in
    let same = ap length c.events-events.ensures in
    let enough : count N ≤ length before = omega (arith, same) in
    let is = c.in_ok-rounds.ensures in
    let decided = subst (λ a. Decided N a) is (central_decides N (draft_sound d)) in
    let exact = decided.settled refl in
    let sized = decided.sized in
    let table = c.run_rounds.new.ends in
    let wrote : c.fill-2.new.places ≡ map window_of table ++ drop (length table) before = filled_places window_of none table before c.fill-2.new.places c.fill-2.ensures (omega (arith, sized)) in
    record {
      value = sym (cond-true _ _ _ (le-leb _ _ enough) ∙ ap told is);
      after = wrote ∙ sym (cond-true _ _ _ (le-leb _ _ enough) ∙ ap (filled before) is);
      refuses = λ _. (λ e. absurd (false≢true e), λ hopeless. absurd (hopeless _ exact.early));
      exact = λ _. subst (Windows N) (sym wrote) (windows_exact N (draft_sound d) _ _ decided.sized exact);
      rounds = (decided.some_round, decided.few_rounds);
    }
