-- The words of commands.
use Rattle.std.specs.Prelude.{ℕ, ◌&&◌, nat_eq, nat_le, List, [], ◌∷◌, codes, Option, None, Some, if◌then◌else◌, option_map}
use Rattle.std.specs.Cmp.Lexicographic.{pointwise}
use Rattle.mv_base.specs.Number.{◌>>?◌, only_if, number_of}
use Rattle.decode_text.specs.declared.format.Format.{Format}
use Rattle.decode_text.specs.declared.format.Format.TheVariants as formats
use Rattle.mvpn_tool.specs.declared.command.Command.{Command}
use Rattle.mvpn_tool.specs.declared.command.Command.TheVariants as commands
use Rattle.mvpn_tool.specs.declared.command.Detail.{Detail}
use Rattle.mvpn_tool.specs.declared.command.Detail.TheVariants as details

-- the format of that word
abbrev pub format_of : List ℕ → Option Format
format_of word =
    if pointwise nat_eq word (codes "nlri") then Some formats.Nlri else
    if pointwise nat_eq word (codes "pmsi") then Some formats.Pmsi else
    if pointwise nat_eq word (codes "fec") then Some formats.Fec else
    if pointwise nat_eq word (codes "bgp") then Some formats.Bgp else
    if pointwise nat_eq word (codes "ldp") then Some formats.Ldp else
    if pointwise nat_eq word (codes "pim") then Some formats.Pim else None

-- the number of a made network: 1 to 1,000,000, in decimal without leading zeros
unfoldable pub made_number_of : List ℕ → Option ℕ
made_number_of word = number_of word >>? λ number. only_if (nat_le 1 number && nat_le number 1000000) number

-- the detail that a word after `replay` asks for
abbrev pub detail_of : List ℕ → Option Detail
detail_of word = if pointwise nat_eq word (codes "--wire") then Some details.Wire else None

-- the command of two words: `replay` and its detail, `decode` and a format, or `make` or `sweep` and a number
abbrev pub command_with : List ℕ → List ℕ → Option Command
command_with a b =
    if pointwise nat_eq a (codes "replay") then option_map (λ detail. commands.Replay detail) (detail_of b) else
    if pointwise nat_eq a (codes "decode") then option_map (λ format. commands.Decode format) (format_of b) else
    if pointwise nat_eq a (codes "make") then option_map (λ number. commands.Make number) (made_number_of b) else
    if pointwise nat_eq a (codes "sweep") then option_map (λ number. commands.Sweep number) (made_number_of b) else None

-- the command of one word
abbrev pub command_alone : List ℕ → Option Command
command_alone word =
    if pointwise nat_eq word (codes "replay") then Some (commands.Replay details.Plain) else
    if pointwise nat_eq word (codes "audit") then Some commands.Audit else
    if pointwise nat_eq word (codes "hops") then Some commands.Hops else
    if pointwise nat_eq word (codes "ingress") then Some commands.Ingress else
    if pointwise nat_eq word (codes "probe") then Some commands.Probe else
    if pointwise nat_eq word (codes "pcap") then Some commands.Pcap else None

-- the command that the words name: `replay` with or without `--wire`, `decode` and a format, `make` or `sweep` and a number, or a word
-- alone
abbrev pub command_of : List (List ℕ) → Option Command
command_of [] = None
command_of (a ∷ []) = command_alone a
command_of (a ∷ b ∷ []) = command_with a b
command_of (a ∷ b ∷ c ∷ more) = None

-- the line that shows the forms of a command
abbrev pub usage_line : List ℕ
usage_line = codes "usage: mvpn replay [--wire] | decode nlri|pmsi|fec|bgp|ldp|pim | make NUMBER | sweep NUMBER | audit | probe | ingress | pcap | hops\n"
