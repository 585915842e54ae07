-- The map is closed, and the answers in turn are those of a merge.
use Rattle.std.proofs.Common.{◌≡◌, ◌∙◌, ℕ, List, ◌++◌, length, sym, subst, Err}
use Rattle.moc_lists.specs.RangeList.{NumberSet}
use Rattle.moc_text.specs.Lines.{lines_of}
use Rattle.moc_shared.specs.Clients.{record_of, AfterClose}
use Rattle.moc_shared.specs.declared.errors.CloseError.{CloseError}
use Rattle.moc_shared.specs.declared.errors.CloseError.TheVariants.{Midway}
use Rattle.moc_script.specs.Crews.{nonblank_lines, IsCrewText}
use Rattle.moc_script.specs.Private.Gathering.{HasLanes}
use Rattle.moc_script.specs.Private.Joining.{IsMerged}
use Rattle.moc_script.proofs.Crewing.{crew_of_lanes, represents_all, as_answers}
use Rattle.moc_script.proofs.crews.close_map.Goals as goal

pub unreachable-requires : goal.unreachable-requires
unreachable-requires c =
    let client = c.in_ok-client.client in
    let midway : AfterClose c.args.map (record_of client) (Err (Midway c.in-Err-Midway.field-0-0)) =
    subst (λ (e : CloseError). AfterClose c.args.map (record_of client) (Err e)) c.in-Err-Midway.field-0-is c.in-Err-Midway.ensures in
    midway.1 (represents_all c.args.map c.args.lanes c.args.input.now c.in_ok-client.answers.items client c.requires.clients c.in_ok-client.ensures.lanes)

pub returns : goal.returns
returns c =
    let n : ℕ = c.args.lanes in
    let input = c.args.input.now in
    let nonblank : List (List ℕ) = nonblank_lines (lines_of input) in
    let answers = c.in_ok-client.answers.items in
    let client = c.in_ok-client.client in
    let end : NumberSet = c.in-Ok.set in
    let lanes : HasLanes n n input answers client = c.in_ok-client.ensures.lanes in
    let wide : length answers ≡ n = c.in_ok-client.ensures.wide in
    record {
      wide = wide;
      for_lines = as_answers n input answers client lanes;
      text = λ front all. subst (λ (l : List ℕ). IsCrewText n nonblank (front ++ l)) (sym c.in_ok-cover.ensures)
          (crew_of_lanes c.args.map n input answers all.left client end front c.requires.some lanes (subst (λ (m : ℕ). IsMerged m answers all.left (length nonblank) front) wide all.merge) c.requires.start c.requires.clients
          c.in-Ok.ensures);
    }
