-- The scenario and script of a number: 32 edges over a ring of 16 core nodes, with eight VPNs that have a site at every edge. In each VPN
-- a quarter of the edges join one flow; each flow is sent over the inclusive tunnel, after a selection, and on the selected tunnel.
use Rattle.std.specs.Prelude.{ℕ, zero, suc, ◌+◌, ◌*◌, ◌-◌, ◌%◌, ◌==◌, ◌&&◌, not, List, [], ◌++◌, codes, if◌then◌else◌}
use Rattle.std.specs.Fmt.{decimal}

-- the text of each number from 1 on, up to that one
abbrev pub each : (ℕ → List ℕ) → ℕ → List ℕ
each text zero = []
each text (suc count) = each text count ++ text (suc count)

-- ---- names and words

-- the number of a VPN and that of an edge, as the names of VRFs, sites and interfaces have them
abbrev pub pair : ℕ → ℕ → List ℕ
pair vpn edge = decimal vpn ++ codes "_" ++ decimal edge

-- the edge at whose site the source of the VPN's flow is
abbrev pub source_edge : ℕ → ℕ → ℕ
source_edge number vpn = (number + 5 * vpn) % 32 + 1

-- source and group of the VPN's flow
abbrev pub flow : ℕ → ℕ → List ℕ
flow number vpn = codes "10." ++ decimal (source_edge number vpn) ++ codes "." ++ decimal vpn ++ codes ".9 232.1.1." ++ decimal vpn

-- ---- the scenario

abbrev pub edge_line : ℕ → List ℕ
edge_line edge = codes "edge E" ++ decimal edge ++ codes " 192.0.2." ++ decimal edge ++ codes "\n"

abbrev pub core_line : ℕ → List ℕ
core_line core = codes "core C" ++ decimal core ++ codes " 192.0.3." ++ decimal core ++ codes "\n"

-- a link of the ring of core nodes, and the link of an edge to one of them
abbrev pub ring_line : ℕ → List ℕ
ring_line core = codes "link C" ++ decimal core ++ codes " C" ++ decimal (core % 16 + 1) ++ codes " 1\n"

abbrev pub spur_line : ℕ → List ℕ
spur_line edge = codes "link E" ++ decimal edge ++ codes " C" ++ decimal ((edge - 1) % 16 + 1) ++ codes " 1\n"

abbrev pub vrf_line : ℕ → ℕ → List ℕ
vrf_line edge vpn =
    codes "vrf V" ++ pair vpn edge ++ codes " E" ++ decimal edge ++ codes " " ++ decimal vpn
    ++ codes " 65000:" ++ decimal vpn ++ codes " 65000:" ++ decimal vpn ++ codes " highest\n"

abbrev pub site_line : ℕ → ℕ → List ℕ
site_line edge vpn = codes "site S" ++ pair vpn edge ++ codes " 10." ++ decimal edge ++ codes "." ++ decimal vpn ++ codes ".0/24\n"

abbrev pub iface_line : ℕ → ℕ → List ℕ
iface_line edge vpn =
    codes "iface I" ++ pair vpn edge ++ codes " V" ++ pair vpn edge ++ codes " S" ++ pair vpn edge
    ++ codes " 10." ++ decimal edge ++ codes "." ++ decimal vpn ++ codes ".1\n"

-- what a VPN has at an edge
abbrev pub attachment : ℕ → ℕ → List ℕ
attachment edge vpn = vrf_line edge vpn ++ site_line edge vpn ++ iface_line edge vpn

abbrev pub scenario : List ℕ
scenario =
    each edge_line 32 ++ each core_line 16 ++ each ring_line 16 ++ each spur_line 32
    ++ each (λ edge. each (attachment edge) 8) 32

-- ---- the script

-- the interfaces that join the VPN's flow: those of a quarter of the edges, and not of that of the source
abbrev pub join_line : ℕ → ℕ → ℕ → List ℕ
join_line number vpn edge =
    if not (edge == source_edge number vpn) && (edge + vpn + number) % 4 == 0
    then codes "join I" ++ pair vpn edge ++ codes " " ++ flow number vpn ++ codes "\n"
    else []

abbrev pub joins : ℕ → List ℕ
joins number = each (λ vpn. each (join_line number vpn) 32) 8

abbrev pub send_line : ℕ → List ℕ → ℕ → List ℕ
send_line number payload vpn =
    codes "send S" ++ pair vpn (source_edge number vpn) ++ codes " " ++ flow number vpn ++ codes " " ++ payload ++ codes "\n"

-- a datagram of each flow
abbrev pub sends : ℕ → List ℕ → List ℕ
sends number payload = each (send_line number payload) 8

-- the flows of every second VPN are selected
abbrev pub select_line : ℕ → ℕ → List ℕ
select_line number vpn =
    if vpn % 2 == 1
    then codes "select V" ++ pair vpn (source_edge number vpn) ++ codes " " ++ flow number vpn ++ codes "\n"
    else []

abbrev pub selects : ℕ → List ℕ
selects number = each (select_line number) 8

-- sessions come up; then the joins, and a datagram of each flow over the inclusive tunnels
abbrev pub first_part : ℕ → List ℕ
first_part number =
    codes "events\nheal\nsettle\ntick 3\nsettle\n" ++ joins number
    ++ codes "settle\nstate\n" ++ sends number (codes "01") ++ codes "drain\n"

-- the selections, and a datagram of each flow before and after their delay
abbrev pub last_part : ℕ → List ℕ
last_part number =
    selects number ++ codes "settle\nstate\n" ++ sends number (codes "02")
    ++ codes "drain\ntick 3\nsettle\nstate\n" ++ sends number (codes "03") ++ codes "drain\nstate\n"

-- the whole text
unfoldable pub made : ℕ → List ℕ
made number = scenario ++ first_part number ++ last_part number
