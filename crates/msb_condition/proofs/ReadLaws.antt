-- A whole condition from its first token on.
use Rattle.std.proofs.Common.{◌≡◌, ℕ, List, [], ◌∷◌, length, Ok, sym, ap, ◌∙◌}
use Rattle.msb_condition.specs.Leads.{run_at, step_at}
use Rattle.msb_condition.specs.Machine.{done, wants, tree_step, run}
use Rattle.msb_condition.specs.Places.{tokens_at}
use Rattle.msb_condition.specs.Reading.{condition_of, read_tokens}
use Rattle.msb_condition.specs.Tokens.{Token}
use Rattle.msb_condition.specs.Trees.{Tree, empty}

pub nothing_read : (text : List ℕ) → tokens_at 0 text ≡ [] → condition_of text ≡ Ok empty
nothing_read text e = ap (read_tokens (length text)) e

pub begins : (text : List ℕ) (token : Token) (tokens : List Token)
    → tokens_at 0 text ≡ token ∷ tokens → condition_of text ≡ run_at text 0 [] wants
begins text token tokens e = ap (read_tokens (length text)) e
    ∙ sym (ap (λ ts. run (length text) ts [] wants) e)

pub ends_well : (text : List ℕ) (end : ℕ) (tree : Tree) → tokens_at end text ≡ []
    → run_at text end [] (done tree) ≡ Ok tree
ends_well text end tree e = ap (λ ts. run (length text) ts [] (done tree)) e

pub goes_on : (text : List ℕ) (at : ℕ) (token : Token) (end : ℕ) (tree : Tree)
    → tokens_at at text ≡ token ∷ tokens_at end text
    → run_at text at [] (done tree) ≡ step_at text
    (tree_step [] tree token.kind token.place token.bytes) end
goes_on text at token end tree e = ap (λ ts. run (length text) ts [] (done tree)) e
