use Rattle.std.proofs.Common.{◌≡◌, ◌++◌, Option, take, ap, sym, subst}
use Rattle.std.specs.Result.{OnOk}
use Rattle.bgp_values.specs.declared.pmsi_attr.pmsi.Pmsi.{Pmsi}
use Rattle.bgp_values.specs.pmsi_attr.Spelling.{written}
use Rattle.bgp_messages.specs.bgp_update.Written.{attribute, tunnel_text}
use Rattle.bgp_messages.proofs.bgp_update.Appending.{put_same, front_is}
use Rattle.bgp_messages.proofs.bgp_update.writing.put_tunnel.Goals as goal

pub returns-in-Some : goal.returns-in-Some
returns-in-Some c =
    let text = written c.in-Some.pmsi in
    let is = front_is _ c.encode-len.new.out text c.encode-len.result c.encode-len.ensures.len c.encode-len.ensures.octets in
    let octets = take c.encode-len.result c.encode-len.new.out in
    let P : Option Pmsi → Type 0 = λ pmsi. OnOk c.put_attribute.result (c.put_attribute.new.out ≡ c.args.out.now ++ tunnel_text pmsi) in
    subst P (sym c.in-Some.is) (put_same c.put_attribute.result c.args.out.now c.put_attribute.new.out (attribute 192 22 octets)
    (attribute 192 22 text) (ap (attribute 192 22) is) c.put_attribute.ensures)
