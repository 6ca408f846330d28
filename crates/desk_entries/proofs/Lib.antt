mod DotCuts
