use Rattle.std.proofs.Common.{sym, ap, ◌∙◌}
use Rattle.std.specs.Prelude.{Err, ⊤}
use Rattle.std.proofs.lemmas.Option.{MatchOption-at_some}
use Rattle.track.specs.Nodes.{InBuffers}
use Rattle.track.specs.declared.ports.Port.{Port}
use Rattle.array.proofs.Verdicts.{passed_on}
use Rattle.follower.specs.Inner.{wafer_of}
use Rattle.follower.proofs.Judging.{no_way, at_end, at_join, at_stop, goes_on, stops_here, fourth_met, refused_as, still_sound, was_none, was_some}
use Rattle.follower.proofs.Walk.advance.Goals as goal

pub returns-in_err-port : goal.returns-in_err-port
returns-in_err-port c =
    let v = c.args.self.now in
    let o = was_none _ _ _ (sym c.ok_or.ensures.value ∙ c.in_err-port.was) in
    refused_as (passed_on _ c.from_residual.ensures.1)
    (λ z. no_way (wafer_of c.args.wafer.now) v.port v.last v.passed (sym c.stretch_from.ensures.is ∙ o.0) z ∙ ap Err (sym c.at.ensures ∙ sym o.1))
    c.requires

pub returns-in_err-land : goal.returns-in_err-land
returns-in_err-land c =
    let v = c.args.self.now in
    let o = sym c.stretch_from.ensures.is ∙ was_some _ _ _ (sym c.ok_or.ensures.value ∙ c.in_ok-port.was) in
    let e = sym c.ends_link.ensures ∙ c.if-ends_link.true in
    refused_as (passed_on _ c.from_residual-in_err-land.ensures.1)
    (λ z. at_end (wafer_of c.args.wafer.now) v.port v.last v.passed c.in_ok-port.port o e z ∙ sym c.land.ensures ∙ c.in_err-land.was)
    c.requires

pub returns-then-ends_link : goal.returns-then-ends_link
returns-then-ends_link c =
    let v = c.args.self.now in
    let o = sym c.stretch_from.ensures.is ∙ was_some _ _ _ (sym c.ok_or.ensures.value ∙ c.in_ok-port.was) in
    let e = sym c.ends_link.ensures ∙ c.if-ends_link.true in
    record {
      is = λ z. sym (at_end (wafer_of c.args.wafer.now) v.port v.last v.passed c.in_ok-port.port o e z ∙ sym c.land.ensures ∙ c.in_ok-land.was);
      sound = c.requires;
    }

pub returns-in_err-enter : goal.returns-in_err-enter
returns-in_err-enter c =
    let o = sym c.stretch_from.ensures.is ∙ was_some _ _ _ (sym c.ok_or.ensures.value ∙ c.in_ok-port.was) in
    let e = sym c.ends_link.ensures ∙ c.if-ends_link.false in
    refused_as (passed_on _ c.from_residual-in_err-enter.ensures.1)
    (λ z. fourth_met (wafer_of c.args.wafer.now) c.in_ok-port.port o e c.enter.ensures _ c.in_err-enter.was z)
    (still_sound c.requires c.enter.ensures)

pub returns-in_err-side : goal.returns-in_err-side
returns-in_err-side c =
    let v = c.args.self.now in
    let w = wafer_of c.args.wafer.now in
    let i = c.in_ok-port.port in
    let o = sym c.stretch_from.ensures.is ∙ was_some _ _ _ (sym c.ok_or.ensures.value ∙ c.in_ok-port.was) in
    let e = sym c.ends_link.ensures ∙ c.if-ends_link.false in
    let s = was_none _ _ _ (sym c.ok_or-2.ensures.value ∙ c.in_err-side.was) in
    refused_as (passed_on _ c.from_residual-in_err-side.ensures.1)
    (λ z.
    at_stop w v.port v.last v.passed i o e (sym c.joined.ensures ∙ s.0) z
    ∙ stops_here w.grid i c.enter.ensures c.in_ok-enter.was
    ∙ ap Err (sym c.at-2.ensures ∙ sym s.1))
    (still_sound c.requires c.enter.ensures)

pub returns : goal.returns
returns c =
    let v = c.args.self.now in
    let w = wafer_of c.args.wafer.now in
    let i = c.in_ok-port.port in
    let o = sym c.stretch_from.ensures.is ∙ was_some _ _ _ (sym c.ok_or.ensures.value ∙ c.in_ok-port.was) in
    let e = sym c.ends_link.ensures ∙ c.if-ends_link.false in
    let within = MatchOption-at_some ⊤ (λ (q : Port). InBuffers q.node) i (was_some _ _ _ (sym c.ok_or.ensures.value ∙ c.in_ok-port.was)) c.stretch_from.ensures.within in
    let j = sym c.joined.ensures ∙ was_some _ _ _ (sym c.ok_or-2.ensures.value ∙ c.in_ok-side.was) in
    record {
      is = λ z.
          sym (at_join w v.port v.last v.passed i o e c.in_ok-side.side j z
          ∙ goes_on w.grid i c.enter.ensures c.in_ok-enter.was _ _);
      sound = record { port = within; few = c.enter.ensures.few };
    }
