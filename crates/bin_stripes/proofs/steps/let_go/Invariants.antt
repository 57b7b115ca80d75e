use Rattle.bin_stripes.proofs.steps.let_go.Given as goal

abbrev pub ghosts-release : goal.ghosts-release
ghosts-release g a = record { may = λ actions. g.M.Shows.shows a.what.now actions }
