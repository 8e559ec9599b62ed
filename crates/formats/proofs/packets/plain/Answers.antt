-- `packets::plain` meets its contract, by the kind.
use mathlib.Core.Path.{◌∙◌}
use mathlib.Core.Logic.{◌≢◌}
use native.Mathlib.Omega.{arith}
use Rattle.network.specs.View.{request_of, reply_of, packet_of}
use Rattle.network.proofs.ViewLaws.{body-request, body-reply, body-error, body-other}
use Rattle.formats.specs.Formats.{plain_body, Known}
use Rattle.formats.proofs.packets.plain.Goals as goal

pub returns-in-1 : goal.returns-in-1
unfolding Known request_of packet_of plain_body
returns-in-1 c =
    let body = body-request c.args.p c.in-1.is in
    (rw (body, c.in-1.is), rw body tt)

pub returns-in-2 : goal.returns-in-2
unfolding Known reply_of packet_of plain_body
returns-in-2 c =
    let body = body-reply c.args.p c.in-2.is in
    (rw (body, c.in-2.is), rw body tt)

pub returns-in-3 : goal.returns-in-3
unfolding Known packet_of plain_body
returns-in-3 c =
    let body = body-error c.args.p c.in-3.is in
    (c.bare.ensures ∙ rw body, rw body tt)

pub returns-in_default : goal.returns-in_default
unfolding Known packet_of plain_body
returns-in_default c =
    let one : c.args.p.kind ≢ 1 = omega arith in
    let two : c.args.p.kind ≢ 2 = omega arith in
    let three : c.args.p.kind ≢ 3 = omega arith in
    let body = body-other c.args.p one two three in
    (c.bare-in_default.ensures ∙ rw body, rw body (one, two, three))
