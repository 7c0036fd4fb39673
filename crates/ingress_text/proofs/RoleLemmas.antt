-- What peers do, after one line more.
use Rattle.std.proofs.Common.{◌≡◌, ◌∙◌, ap, sym, subst, ℕ, List, [], ◌∷◌, ◌++◌, cond, Option, None, Some, nat_cmp}
use Rattle.std.proofs.lemmas.List.Sums.{fold-append}
use Rattle.std.specs.BTreeMap as tree
use Rattle.std.specs.BTreeMap.{BTreeMap, is_at}
use Rattle.ingress_text.specs.declared.input.Line.{Line}
use Rattle.ingress_text.specs.declared.input.Role.{Role}
use Rattle.ingress_text.specs.Drafted.{number_by, role_at, role_after, role_of}

pub role_more : (old new : BTreeMap ℕ Role) (lines more : List Line) (line : Line) (key : ℕ) (role : Role) →
    ((n : ℕ) → tree.get nat_cmp old n ≡ role_at lines n) →
    ((n : ℕ) → tree.get nat_cmp new n ≡ cond (is_at (nat_cmp key) n) (Some role) (tree.get nat_cmp old n)) →
    key ≡ number_by line → role ≡ role_of line.said → more ≡ lines ++ line ∷ [] →
    (n : ℕ) → tree.get nat_cmp new n ≡ role_at more n
role_more old new lines more line key role held set key_is role_is more_is n =
    set n
    ∙ (ap (λ (o : Option Role). cond (is_at (nat_cmp key) n) (Some role) o) (held n)
    ∙ ((λ i. cond (is_at (nat_cmp (key_is i)) n) (Some (role_is i)) (role_at lines n))
    ∙ (sym (fold-append (role_after n) None lines (line ∷ [])) ∙ ap (λ (all : List Line). role_at all n) (sym more_is))))
