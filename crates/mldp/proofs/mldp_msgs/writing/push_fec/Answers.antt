use Rattle.std.proofs.Common.{◌≡◌, ℕ, ◌++◌, List, length, take, drop, subst, ap, sym, ◌∙◌}
use Rattle.std.specs.Int.{w16, to_be_bytes}
use Rattle.std.specs.Result.{OnOk}
use Rattle.std.proofs.lemmas.List.{take_at}
use Rattle.mv_base.specs.Writing.{put_at}
use Rattle.mv_base.proofs.Fields.{put_at_front}
use Rattle.mldp.specs.mldp_fec.Spelling as fec
use Rattle.mldp.proofs.mldp_msgs.writing.push_fec.Goals as goal

-- the octets that were written to the front
front_is : (old text out : List ℕ) (n : ℕ) → out ≡ put_at old 0 text → n ≡ length text → take n out ≡ text
front_is old text out n put len =
    ap (take n) (put ∙ put_at_front old text) ∙ take_at text (drop (length text) old) n (sym len)

pub returns : goal.returns
returns c =
    let text : List ℕ = fec.written c.args.fec.now in
    let front : take c.encode-len.result c.encode-len.new.out ≡ text =
    front_is _ text c.encode-len.new.out c.encode-len.result c.encode-len.ensures.octets c.encode-len.ensures.len in
    subst (λ (xs : List ℕ). OnOk c.push_tlv.result
    (c.push_tlv.new.out ≡ c.args.out.now ++ (to_be_bytes w16 0x0100 ++ (to_be_bytes w16 (length xs) ++ xs)))) front c.push_tlv.ensures
